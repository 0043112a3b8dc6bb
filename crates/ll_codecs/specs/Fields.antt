-- The fields of boxes, and the fault if bytes of them are missing.
use Rattle.std.specs.Prelude.{ℕ, ◌+◌, List, drop, length, nat_lt, if◌then◌else◌, Result, Ok, Err}
use Rattle.byteorder.specs.Endian.{big_number}
use Rattle.ll_mp4.specs.declared.fault.StreamFault.{StreamFault}
use Rattle.ll_mp4.specs.declared.fault.StreamFault.TheVariants.{BadBox}

-- the byte at a place
abbrev pub byte_at : ℕ → List ℕ → Result ℕ StreamFault
byte_at place bytes = if nat_lt place (length bytes) then Ok (big_number 1 (drop place bytes)) else Err BadBox

-- the number of 16 bits at a place
abbrev pub short_at : ℕ → List ℕ → Result ℕ StreamFault
short_at place bytes = if nat_lt (length bytes) (place + 2) then Err BadBox else Ok (big_number 2 (drop place bytes))

-- the bytes from a place on
abbrev pub from : ℕ → List ℕ → Result (List ℕ) StreamFault
from place bytes = if nat_lt (length bytes) place then Err BadBox else Ok (drop place bytes)

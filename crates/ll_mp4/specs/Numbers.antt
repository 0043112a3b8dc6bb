-- The fields of boxes: numbers and flags, and the fault if bytes of them are missing.
use Rattle.std.specs.Prelude.{ℕ, ◌+◌, ◌==◌, not, Bool, true, false, List, drop, length, nat_lt, if◌then◌else◌, Result, Ok, Err, bit_and}
use Rattle.byteorder.specs.Endian.{big_number}
use Rattle.ll_mp4.specs.declared.fault.StreamFault.{StreamFault}
use Rattle.ll_mp4.specs.declared.fault.StreamFault.TheVariants.{BadBox}

infixl 10 ◌>>=◌
abbrev pub ◌>>=◌ : {A B : Type 0} → Result A StreamFault → (A → Result B StreamFault) → Result B StreamFault
Err fault >>= f = Err fault
Ok x >>= f = f x

-- the number of 32 bits at a place
abbrev pub number_at : ℕ → List ℕ → Result ℕ StreamFault
number_at place bytes = if nat_lt (length bytes) (place + 4) then Err BadBox else Ok (big_number 4 (drop place bytes))

-- the number of 64 bits at a place
abbrev pub large_number_at : ℕ → List ℕ → Result ℕ StreamFault
large_number_at place bytes = if nat_lt (length bytes) (place + 8) then Err BadBox else Ok (big_number 8 (drop place bytes))

-- whether `flags` has the bit `flag`
abbrev pub has : ℕ → ℕ → Bool
has flags flag = not (bit_and flags flag == 0)

-- the length of a field that has `bytes` bytes if `flags` has the bit `flag`, and is absent otherwise
abbrev pub room : ℕ → ℕ → ℕ → ℕ
room flags flag bytes = if has flags flag then bytes else 0

-- the 32-bit number at a place if it is present, else its default
abbrev pub number_or : Bool → ℕ → List ℕ → ℕ → Result ℕ StreamFault
number_or false place bytes default = Ok default
number_or true place bytes default = number_at place bytes

-- The secret of a channel: the line that gives it, and its digest, which is all that is kept of it.
use Rattle.std.specs.Prelude.{ℕ, ◌&&◌, Bool, List, Option, Some, None, bytes_eq, codes, if◌then◌else◌, length, nat_le, option_and_then}
use Rattle.std.specs.List.{list_all}
use Rattle.std.specs.Result.{result_ok}
use Rattle.hex.specs.Hex.{decode_sized}
use Rattle.sha2.specs.Sha256.{sha256}
use Rattle.ll_attr.specs.Words.{after}

-- a character that can be seen: 0x21 to 0x7E
abbrev pub is_graphic : ℕ → Bool
is_graphic b = nat_le 33 b && nat_le b 126

-- 1 to 256 of these
abbrev pub is_secret : List ℕ → Bool
is_secret word = nat_le 1 (length word) && (nat_le (length word) 256 && list_all is_graphic word)

abbrev pub some_secret : List ℕ → Option (List ℕ)
some_secret word = if is_secret word then Some word else None

-- the secret that the line `secret WORD` gives
abbrev pub secret_in : List ℕ → Option (List ℕ)
secret_in line = option_and_then some_secret (after (codes "secret ") line)

-- the digest that 64 hexadecimal digits spell
abbrev pub digest_in : List ℕ → Option (List ℕ)
digest_in text = result_ok (decode_sized text 32)

-- `word` is the secret with this digest
abbrev pub opens : List ℕ → List ℕ → Bool
opens digest word = bytes_eq (sha256 word) digest

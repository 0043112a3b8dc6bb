-- The secret in a file, and the line by which a publisher shows it.
use Rattle.std.specs.Prelude.{◌≡◌, ◌⊎◌, ℕ, ◌-◌, ◌&&◌, ◌==◌, Bool, List, ◌++◌, Option, Some, None, codes, if◌then◌else◌, length, nat_le, option_map, slice_index, take}
use Rattle.std.specs.List.{list_all}
use Rattle.std.specs.Str.Lines.{strip_carriage_return}
use Rattle.ll_command.specs.declared.fault.Fault.{Fault}
use Rattle.ll_command.specs.declared.fault.Fault.TheVariants.{Memory, Usage}

-- without one LF, or CR and LF, at the end
abbrev pub without_end : List ℕ → List ℕ
without_end text = if slice_index text (length text - 1) == 10 then strip_carriage_return (take (length text - 1) text) else text

-- a byte that is allowed in a secret
abbrev pub is_plain : ℕ → Bool
is_plain byte = nat_le 33 byte && nat_le byte 126

-- 1 to 256 of them
abbrev pub is_secret : List ℕ → Bool
is_secret word = nat_le 1 (length word) && nat_le (length word) 256 && list_all is_plain word

-- the secret in the bytes of a file
abbrev pub secret_in : List ℕ → Option (List ℕ)
secret_in file = if is_secret (without_end file) then Some (without_end file) else None

-- the line with a channel's name and a secret
abbrev pub line_of : List ℕ → List ℕ → List ℕ
line_of channel word = channel ++ codes " secret " ++ word ++ codes "\n"

abbrev pub secret_line : List ℕ → List ℕ → Option (List ℕ)
secret_line channel file = option_map (line_of channel) (secret_in file)

-- there is no such line, or no memory for it
abbrev pub IsSecretFault : List ℕ → Fault → Type 0
IsSecretFault file fault = (fault ≡ Memory) ⊎ ((fault ≡ Usage) × (secret_in file ≡ None))

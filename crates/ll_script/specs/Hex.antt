-- Bytes that a text spells by two hexadecimal digits each.
use Rattle.std.specs.Prelude.{ℕ, ◌+◌, ◌*◌, ◌-◌, ◌&&◌, List, [], ◌∷◌, Option, Some, None, nat_le, if◌then◌else◌}

-- the value of a hexadecimal digit: 0 to 9, or a to f in lower case alone
abbrev pub hex_digit : ℕ → Option ℕ
hex_digit b =
    if nat_le 48 b && nat_le b 57 then Some (b - 48)
    else if nat_le 97 b && nat_le b 102 then Some (b - 87)
    else None

-- the byte of two digits, before the bytes that follow it
abbrev pub byte_before : (high low : Option ℕ) → Option (List ℕ) → Option (List ℕ)
byte_before (Some high) (Some low) (Some bytes) = Some ((16 * high + low) ∷ bytes)
byte_before high low bytes = None

-- the bytes that a text spells by two digits each; `None` for any other text
abbrev pub bytes_in_hex : List ℕ → Option (List ℕ)
bytes_in_hex [] = Some []
bytes_in_hex (a ∷ []) = None
bytes_in_hex (a ∷ b ∷ more) = byte_before (hex_digit a) (hex_digit b) (bytes_in_hex more)

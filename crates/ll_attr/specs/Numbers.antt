-- Numbers in decimal digits (decimal-integer of section 4.2 of draft-pantos-hls-rfc8216bis).
use Rattle.std.specs.Prelude.{ℕ, ◌^◌, ◌&&◌, List, Bool, Option, Some, None, length, nat_le, nat_lt, if◌then◌else◌}
use Rattle.std.specs.Str.{all_ascii_digits}
use Rattle.std.specs.Str.Parse.{digits_value}

-- whether `text` is 1 to `most` digits and nothing else
abbrev pub is_digits : ℕ → List ℕ → Bool
is_digits most text = nat_le 1 (length text) && nat_le (length text) most && all_ascii_digits text

-- the number below 2^64 that 1 to `most` digits spell; leading zeros are allowed
abbrev pub number_in : ℕ → List ℕ → Option ℕ
number_in most text = if is_digits most text && nat_lt (digits_value 10 text) (2 ^ 64) then Some (digits_value 10 text) else None

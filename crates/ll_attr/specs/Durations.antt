-- Durations: whole microseconds, and how they are spelled in seconds (decimal-floating-point of section 4.2 of draft-pantos-hls-rfc8216bis).
use Rattle.std.specs.Prelude.{◌≡◌, ℕ, ◌+◌, ◌-◌, ◌*◌, ◌/◌, ◌%◌, ◌^◌, ◌<◌, ◌&&◌, List, [], ◌∷◌, ◌++◌, Option, Some, None, if◌then◌else◌, length, decimal, codes}
use Rattle.std.specs.Str.Parse.{digits_value}
use Rattle.ll_attr.specs.Numbers.{is_digits}
use Rattle.ll_attr.specs.Words.{pieces_at}

-- microseconds as seconds with six decimals (rule 1)
unfoldable pub seconds : ℕ → List ℕ
seconds micros =
    decimal (micros / 1000000) ++ (codes "." ++ (decimal (micros / 100000 % 10) ++ (decimal (micros / 10000 % 10)
    ++ (decimal (micros / 1000 % 10) ++ (decimal (micros / 100 % 10) ++ (decimal (micros / 10 % 10) ++ decimal (micros % 10)))))))

-- the microseconds of 1 to 12 digits of whole seconds, optionally with a point and 1 to 6 digits after them
abbrev pub micros_of_parts : List (List ℕ) → Option ℕ
micros_of_parts (whole ∷ []) = if is_digits 12 whole then Some (digits_value 10 whole * 1000000) else None
micros_of_parts (whole ∷ fraction ∷ []) =
    if is_digits 12 whole && is_digits 6 fraction
    then Some (digits_value 10 whole * 1000000 + digits_value 10 fraction * 10 ^ (6 - length fraction))
    else None
micros_of_parts parts = None

-- the microseconds that a text of seconds means
abbrev pub micros_in : List ℕ → Option ℕ
micros_in text = micros_of_parts (pieces_at 46 text)

-- each duration below 10^18 microseconds is read back from its spelling
abbrev pub ReadsBack : Type 0
ReadsBack = (n : ℕ) → n < 10 ^ 18 → micros_in (seconds n) ≡ Some n

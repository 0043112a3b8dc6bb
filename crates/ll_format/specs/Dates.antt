-- Dates with a time of day and an offset from UTC, as date ranges spell them (section 4.4.5.1 of draft-pantos-hls-rfc8216bis,
-- after ISO 8601).
use Rattle.std.specs.Prelude.{ℕ, List, [], ◌∷◌, Bool, false, ◌&&◌, ◌||◌, ◌+◌, ◌==◌, Option, Some, None, length, take, drop, nat_le, pos, if◌then◌else◌}
use Rattle.std.specs.Char.{is_ascii_digit}
use Rattle.jiff_core.specs.Calendar.{days_in_month}
use Rattle.ll_attr.specs.Numbers.{number_in}
use Rattle.ll_attr.specs.Words.{pieces_at}

-- the number that exactly `count` decimal digits spell
abbrev pub number_of : ℕ → List ℕ → Option ℕ
number_of count text = if length text == count then number_in count text else None

abbrev pub is_at_most : ℕ → Option ℕ → Bool
is_at_most most None = false
is_at_most most (Some n) = nat_le n most

-- a day of the calendar, from the year 0 on
abbrev pub is_day : Option ℕ → Option ℕ → Option ℕ → Bool
is_day (Some year) (Some month) (Some day) = nat_le 1 month && nat_le month 12 && nat_le 1 day && nat_le day (days_in_month (pos year) month)
is_day year month day = false

abbrev pub date_of : List (List ℕ) → Bool
date_of (year ∷ month ∷ day ∷ []) = is_day (number_of 4 year) (number_of 2 month) (number_of 2 day)
date_of other = false

-- `YYYY-MM-DD`
abbrev pub is_date : List ℕ → Bool
is_date text = date_of (pieces_at 45 text)

abbrev pub offset_of : List (List ℕ) → Bool
offset_of (hours ∷ minutes ∷ []) = is_at_most 23 (number_of 2 hours) && is_at_most 59 (number_of 2 minutes)
offset_of other = false

abbrev pub time_of_day : List (List ℕ) → Bool
time_of_day (hours ∷ minutes ∷ seconds ∷ []) =
    is_at_most 23 (number_of 2 hours) && is_at_most 59 (number_of 2 minutes) && is_at_most 59 (number_of 2 seconds)
time_of_day other = false

-- `Z`, `+hh:mm` or `-hh:mm`
abbrev pub is_offset : List ℕ → Bool
is_offset [] = false
is_offset (sign ∷ rest) = (sign == 90 && length rest == 0) || ((sign == 43 || sign == 45) && offset_of (pieces_at 58 rest))

abbrev pub digits_before : List ℕ → ℕ
digits_before [] = 0
digits_before (b ∷ bs) = if is_ascii_digit b then 1 + digits_before bs else 0

-- 1 to 9 digits and an offset
abbrev pub is_fraction : List ℕ → Bool
is_fraction text = nat_le 1 (digits_before text) && nat_le (digits_before text) 9 && is_offset (drop (digits_before text) text)

-- an offset, optionally after a fraction of a second
abbrev pub is_rest : List ℕ → Bool
is_rest [] = false
is_rest (b ∷ bs) = if b == 46 then is_fraction bs else is_offset (b ∷ bs)

abbrev pub is_time : List ℕ → Bool
is_time [] = false
is_time (b ∷ bs) = b == 84 && time_of_day (pieces_at 58 (take 8 bs)) && is_rest (drop 8 bs)

-- `YYYY-MM-DDThh:mm:ss`, optionally `.` and 1 to 9 digits, then `Z`, `+hh:mm` or `-hh:mm`
abbrev pub is_date_time : List ℕ → Bool
is_date_time text = is_date (take 10 text) && is_time (drop 10 text)

-- The dates from 1970-01-01 on, each the calendar's day after the one before.
use Rattle.std.specs.Prelude.{◌≡◌, ◌≤◌, ℕ, zero, suc, ◌+◌, Bool, true, false, nat_lt, pos}
use Rattle.jiff_core.specs.Calendar.{days_in_month, days_from_civil, IsCivilDate}

-- a date from the year 0 on
pub record CivilDate : Type 0 where
  pub year : ℕ
  -- from 1 to 12
  pub month : ℕ
  -- from 1
  pub day : ℕ

-- the day number of 9999-12-31
abbrev pub last_day : ℕ
last_day = 2932896

-- the first of the next month if the year has one, else of the next year
abbrev pub after_month : Bool → CivilDate → CivilDate
after_month true date = record { year = date.year; month = date.month + 1; day = 1 }
after_month false date = record { year = date.year + 1; month = 1; day = 1 }

-- the next day of the month if the month has one, else the first of the next month
abbrev pub after_day : Bool → CivilDate → CivilDate
after_day true date = record { year = date.year; month = date.month; day = date.day + 1 }
after_day false date = after_month (nat_lt date.month 12) date

-- the day after `date` in the calendar
abbrev pub next_date : CivilDate → CivilDate
next_date date = after_day (nat_lt date.day (days_in_month (pos date.year) date.month)) date

-- the date that many days after 1970-01-01
unfoldable pub nth_date : ℕ → CivilDate
nth_date zero = record { year = 1970; month = 1; day = 1 }
nth_date (suc n) = next_date (nth_date n)

-- up to 9999-12-31 the n-th day after 1970-01-01 is a date of jiff's calendar, and its day number there is n
abbrev pub CalendarLaw : Type 0
CalendarLaw =
    (n : ℕ) → n ≤ last_day
    → IsCivilDate (pos (nth_date n).year) (nth_date n).month (nth_date n).day
    × (days_from_civil (pos (nth_date n).year) (nth_date n).month (nth_date n).day ≡ pos n)

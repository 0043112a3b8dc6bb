-- The n-th date has the day number n, and so it is the date that jiff returns for that day.
use Rattle.std.proofs.Common.{◌≡◌, ℕ, zero, suc, ◌+◌, ◌<◌, ◌≤◌, Bool, true, false, nat_lt, refl, sym, ap, ◌∙◌, arith, rules, pos, unsigned_abs, w64, to_z}
use Rattle.std.proofs.lemmas.Bool.Decides.{nat_tests}
use Rattle.jiff_core.specs.Calendar.{days_in_month, days_from_civil, IsCivilDate}
use Rattle.jiff_core.specs.Date.{epoch_day}
use Rattle.jiff_core.specs.declared.civil.date.Date.{Date}
use Rattle.jiff_core.proofs.SignedLemmas.{signed_arith, back_small}
use Rattle.jiff_core.proofs.CalendarLemmas.{days_from_civil-day_count, day_count-lt_year, day_count-epoch, days_in_month_bounds}
use Rattle.jiff_core.proofs.DateLemmas.{days_from_civil-day, days_from_civil-next_month, days_from_civil-next_year, days_from_civil-max, epoch_day_injective}
use Rattle.ll_format.specs.Calendar.{CivilDate, last_day, after_month, after_day, nth_date, CalendarLaw}

-- a date of the calendar that has this day number
record IsDay (n : ℕ) (date : CivilDate) : Type 0 where
  pub number : days_from_civil (pos date.year) date.month date.day ≡ pos n
  pub month_low : 1 ≤ date.month
  pub month_high : date.month ≤ 12
  pub day_low : 1 ≤ date.day
  pub day_high : date.day ≤ days_in_month (pos date.year) date.month

first : IsDay 0 (record { year = 1970; month = 1; day = 1 })
first = record {
  number = omega (arith, signed_arith, days_from_civil-day_count, day_count-epoch);
  month_low = omega arith;
  month_high = omega arith;
  day_low = omega arith;
  day_high = omega (arith, days_in_month_bounds);
}

number-next_year : (n y m d : ℕ) → m ≡ 12 → d ≡ days_in_month (pos y) m → days_from_civil (pos y) m d ≡ pos n → days_from_civil (pos (y + 1)) 1 1 ≡ pos (suc n)
number-next_year n y m d twelve last e =
    let thirty_one : d ≡ 31 = rw twelve at last in
    let december : days_from_civil (pos y) 12 31 ≡ pos n = rw (twelve, thirty_one) at e in
    omega (arith, signed_arith, december, days_from_civil-next_year (pos y) (pos (y + 1)) (omega (arith, signed_arith)) (omega (arith, signed_arith)))

later_month : (n : ℕ) (date : CivilDate) (b : Bool) → nat_lt date.month 12 ≡ b → IsDay n date → date.day ≡ days_in_month (pos date.year) date.month → IsDay (suc n) (after_month b date)
later_month n date true e h last = record {
  number = omega (arith, signed_arith, h.number, days_from_civil-next_month (pos date.year) date.month date.day h.month_low last);
  month_low = omega arith;
  month_high = grind (arith, nat_tests, e);
  day_low = omega arith;
  day_high = omega (arith, days_in_month_bounds);
}
later_month n date false e h last =
    let high = h.month_high in
    let twelve : date.month ≡ 12 = grind (arith, nat_tests, e, high) in
    record {
      number = number-next_year n date.year date.month date.day twelve last h.number;
      month_low = omega arith;
      month_high = omega arith;
      day_low = omega arith;
      day_high = omega (arith, days_in_month_bounds);
    }

later_day : (n : ℕ) (date : CivilDate) (b : Bool) → nat_lt date.day (days_in_month (pos date.year) date.month) ≡ b → IsDay n date → IsDay (suc n) (after_day b date)
later_day n date true e h = record {
  number = omega (arith, signed_arith, h.number, days_from_civil-day (pos date.year) date.month date.day (date.day + 1) h.day_low (omega arith));
  month_low = h.month_low;
  month_high = h.month_high;
  day_low = omega arith;
  day_high = grind (arith, nat_tests, e);
}
later_day n date false e h =
    let high = h.day_high in
    later_month n date _ refl h (grind (arith, nat_tests, e, high))

is_day : (n : ℕ) → IsDay n (nth_date n)
unfolding nth_date
is_day zero = first
is_day (suc n) = later_day n (nth_date n) _ refl (is_day n)

-- a day up to 9999-12-31 is not in a later year
year-le : (n : ℕ) (date : CivilDate) → n ≤ last_day → IsDay n date → date.year ≤ 9999
year-le n date h is =
    let number = is.number in
    let early : ¬ (9999 < date.year) =
    λ later. absurd (omega (arith, signed_arith, number, days_from_civil-max, days_from_civil-day_count, day_count-lt_year (pos 9999) 12 31 (pos date.year) date.month date.day (search rules) is.day_low (omega (arith, signed_arith)))) in
    omega arith

in_calendar : (n : ℕ) (date : CivilDate) → n ≤ last_day → IsDay n date → IsCivilDate (pos date.year) date.month date.day
in_calendar n date h is =
    let year = year-le n date h is in
    ((omega (arith, signed_arith), omega (arith, signed_arith)), (is.month_low, is.month_high), (is.day_low, is.day_high))

pub calendar_law : CalendarLaw
calendar_law n h = (in_calendar n _ h (is_day n), (is_day n).number)

-- the n-th date as jiff has it
as_jiff : (date : CivilDate) → IsCivilDate (pos date.year) date.month date.day → Date
as_jiff date h = record { year = pos date.year; month = date.month; day = date.day; year_in = h.0; month_in = h.1; day_in = h.2 }

same_date : (n : ℕ) (d : Date) → n ≤ last_day → epoch_day d ≡ pos n → (d.year ≡ pos (nth_date n).year) × (d.month ≡ (nth_date n).month) × (d.day ≡ (nth_date n).day)
unfolding as_jiff
same_date n d h e =
    let law = calendar_law n h in
    epoch_day_injective d (as_jiff (nth_date n) law.0) (e ∙ sym law.1)

-- the same of a day number that is cast to a signed one
of_cast : (n : ℕ) (d : Date) → n ≤ last_day → epoch_day d ≡ to_z w64 n → (d.year ≡ pos (nth_date n).year) × (d.month ≡ (nth_date n).month) × (d.day ≡ (nth_date n).day)
of_cast n d h e = same_date n d h (e ∙ back_small w64 (pos n) (omega (arith, signed_arith)))

pub year_of_day : (n : ℕ) (d : Date) → n ≤ last_day → epoch_day d ≡ to_z w64 n → unsigned_abs d.year ≡ (nth_date n).year
year_of_day n d h e = ap unsigned_abs (of_cast n d h e).0

pub month_of_day : (n : ℕ) (d : Date) → n ≤ last_day → epoch_day d ≡ to_z w64 n → d.month ≡ (nth_date n).month
month_of_day n d h e = (of_cast n d h e).1

pub day_of_day : (n : ℕ) (d : Date) → n ≤ last_day → epoch_day d ≡ to_z w64 n → d.day ≡ (nth_date n).day
day_of_day n d h e = (of_cast n d h e).2

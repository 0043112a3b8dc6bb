-- The date that jiff returns has the same day number as the n-th date, and only one date has it.
use Rattle.ll_format.proofs.NthDate.{year_of_day, month_of_day, day_of_day}
use Rattle.ll_format.proofs.calendar.date_of_day.Goals as goal

pub returns-clause-year : goal.returns-clause-year
returns-clause-year c =
    year_of_day c.args.day c.unwrap.result c.requires (rw c.unwrap.ensures at c.from_unix_epoch_day.ensures.value)

pub returns-clause-month : goal.returns-clause-month
returns-clause-month c =
    month_of_day c.args.day c.unwrap.result c.requires (rw c.unwrap.ensures at c.from_unix_epoch_day.ensures.value)

pub returns-clause-day : goal.returns-clause-day
returns-clause-day c =
    day_of_day c.args.day c.unwrap.result c.requires (rw c.unwrap.ensures at c.from_unix_epoch_day.ensures.value)

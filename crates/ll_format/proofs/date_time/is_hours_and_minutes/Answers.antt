-- The text is cut at its first colon, and a second one leaves the minutes no number.
use Rattle.std.proofs.Common.{sym, ◌∙◌, true}
use Rattle.ll_format.proofs.Separators.{offset-cut}
use Rattle.ll_format.proofs.date_time.is_hours_and_minutes.Goals as goal

pub returns-then-is_at_most : goal.returns-then-is_at_most
returns-then-is_at_most c =
    offset-cut c.args.text.now c.in-Some.hours.now c.in-Some.minutes.now true c.is_at_most-then-is_at_most.result
    c.in-Some.ensures.parts (sym c.if-is_at_most.true ∙ c.is_at_most.ensures) c.is_at_most-then-is_at_most.ensures

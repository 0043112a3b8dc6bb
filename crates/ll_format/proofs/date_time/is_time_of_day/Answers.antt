-- The text is cut at its first two colons, and a third one leaves the seconds no number.
use Rattle.std.proofs.Common.{sym, ◌∙◌, true, true≢false}
use Rattle.ll_format.proofs.Separators.{time-cut}
use Rattle.ll_format.proofs.date_time.is_time_of_day.Goals as goal
use Rattle.ll_format.proofs.date_time.is_time_of_day.Goals.{then-is_at_most, else-is_at_most}

pub returns-then-is_at_most-2 : goal.returns-then-is_at_most-2
returns-then-is_at_most-2 c =
    elim c.if-is_at_most.branch [
      | then-is_at_most w ↦ time-cut c.args.text.now c.in-Some.hours.now c.in-Some.rest.now c.in-Some-cut.minutes.now c.in-Some-cut.seconds.now true true c.is_at_most-then-is_at_most-2.result
          c.in-Some.ensures.parts c.in-Some-cut.ensures.parts w.if-is_at_most.ensures
          (sym c.if-is_at_most-2.true ∙ w.value-is ∙ w.is_at_most-then-is_at_most.ensures) c.is_at_most-then-is_at_most-2.ensures
      | else-is_at_most w ↦ absurd (true≢false (sym c.if-is_at_most-2.true ∙ w.value-is ∙ w.if-is_at_most.false))
    ]

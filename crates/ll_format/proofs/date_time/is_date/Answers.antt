-- The text is cut at its first two hyphens, and a third one leaves the day no number.
use Rattle.std.proofs.Common.{ap, sym, ◌∙◌, ◌∷◌}
use Rattle.ll_format.specs.Dates.{date_of}
use Rattle.ll_format.proofs.Separators.{day-last}
use Rattle.ll_format.proofs.date_time.is_date.Goals as goal

pub returns : goal.returns
returns c =
    c.is_day.ensures
    ∙ sym (day-last c.in-Some.year.now c.in-Some-cut.month.now c.in-Some-cut.day.now)
    ∙ ap (λ ps. date_of (c.in-Some.year.now ∷ ps)) (sym c.in-Some-cut.ensures.parts)
    ∙ ap date_of (sym c.in-Some.ensures.parts)

-- The text is cut at its first point, and a second one leaves no digits after it.
use Rattle.std.proofs.Common.{sym, ◌∙◌, true}
use Rattle.ll_range.proofs.Seconds.{seconds-cut}
use Rattle.ll_range.proofs.attributes.is_seconds.Goals as goal

pub returns-then-are_digits : goal.returns-then-are_digits
returns-then-are_digits c =
    seconds-cut c.args.text.now c.in-Some.whole.now c.in-Some.fraction.now true c.are_digits-then-are_digits.result
    c.in-Some.ensures.parts (sym c.if-are_digits.true ∙ c.are_digits-in-Some.ensures) c.are_digits-then-are_digits.ensures

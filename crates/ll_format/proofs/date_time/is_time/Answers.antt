-- What follows the `T` is cut after eight bytes, or has a byte past ASCII there.
use Rattle.std.proofs.Common.{sym, ◌∙◌, true, true≢false}
use Rattle.ll_format.proofs.Boundaries.{time-cut, time-uncut}
use Rattle.ll_format.proofs.date_time.is_time.Goals as goal

pub returns-in_default-split_at_checked : goal.returns-in_default-split_at_checked
returns-in_default-split_at_checked c =
    time-uncut c.args.text.now c.in-Some.text.now c.in-Some.ensures (λ h. true≢false (sym (c.in_default-split_at_checked.ensures.variant.1 h)))

pub returns-then-is_time_of_day : goal.returns-then-is_time_of_day
returns-then-is_time_of_day c =
    time-cut c.args.text.now c.in-Some.text.now c.in-Some-split_at_checked.time.now c.in-Some-split_at_checked.rest.now true c.is_rest.result
    c.in-Some.ensures c.in-Some-split_at_checked.ensures.front c.in-Some-split_at_checked.ensures.back
    (sym c.if-is_time_of_day.true ∙ c.is_time_of_day.ensures) c.is_rest.ensures

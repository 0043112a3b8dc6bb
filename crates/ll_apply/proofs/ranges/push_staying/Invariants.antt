-- The text so far and the lines of the date ranges that are left and stay are the whole text.
use Rattle.std.proofs.Common.{◌≡◌, ◌++◌, drop, filter, string_bytes}
use Rattle.ll_apply.specs.Applied as spec
use Rattle.ll_apply.proofs.Staying.{ranges_text}
use Rattle.ll_apply.proofs.ranges.push_staying.Given as goal

abbrev pub invariant-loop-place : goal.invariant-loop-place
invariant-loop-place l =
    string_bytes l.text ++ ranges_text (filter (spec.stays l.removed l.delta.ranges) (drop l.place l.base.ranges))
    ≡ string_bytes l.fn.text ++ ranges_text (filter (spec.stays l.removed l.delta.ranges) l.base.ranges)

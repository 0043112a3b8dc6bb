-- The map after those that are left, from the map so far, is the map after all.
use Rattle.std.proofs.Common.{◌≡◌, drop}
use Rattle.std.specs.Option.{option_map}
use Rattle.ll_apply.specs.Order.{force_after}
use Rattle.ll_apply.proofs.segments.map_after.Given as goal

abbrev pub invariant-loop-segment : goal.invariant-loop-segment
invariant-loop-segment l =
    force_after (option_map (λ uri. uri.now) l.map) (drop l.segment-index l.segments)
    ≡ force_after (option_map (λ uri. uri.now) l.before) l.segments

-- The ids so far and those of the recent removals that are left are all of them.
use Rattle.std.proofs.Common.{◌≡◌, ◌++◌, drop, filter, map}
use Rattle.ll_item.specs.Told.{Removal}
use Rattle.ll_range.specs.Announced.{is_recent}
use Rattle.ll_range.proofs.ranges.Ranges.recent.Given as goal

abbrev pub invariant-loop-place : goal.invariant-loop-place
invariant-loop-place l =
    l.ids.items ++ map (λ (r : Removal). r.id) (filter (is_recent l.self.limit l.end) (drop l.place l.self.recent))
    ≡ map (λ (r : Removal). r.id) (filter (is_recent l.self.limit l.end) l.self.recent)

-- The date ranges that were counted and those that are left to be are all of them.
use Rattle.std.proofs.Common.{◌≡◌, ◌≤◌, ◌+◌, drop, filter, length}
use Rattle.ll_range.specs.Announced.{is_skipped, skipped_at}
use Rattle.ll_range.proofs.ranges.Ranges.skipped.Given as goal

abbrev pub invariant-loop-place : goal.invariant-loop-place
invariant-loop-place l =
    (l.count + length (filter (is_skipped l.self.limit l.end) (drop l.place l.self.listed)) ≡ skipped_at l.end l.self) × (l.count ≤ l.place)

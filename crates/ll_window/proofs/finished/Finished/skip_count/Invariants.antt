-- None of the segments from the count on is skipped, and how long they last is known.
use Rattle.std.proofs.Common.{◌≡◌, ◌≤◌, ◌+◌, drop, length}
use Rattle.ll_window.specs.Rows.{lasting}
use Rattle.ll_window.specs.Window.{skipped_in}
use Rattle.ll_window.proofs.finished.Finished.skip_count.Given as goal

abbrev pub invariant-loop-count : goal.invariant-loop-count
invariant-loop-count l =
    (l.count ≤ length l.self.rows.items)
    × (l.after ≡ lasting (drop l.count l.self.rows.items) + l.open_duration)
    × (skipped_in l.limit l.open_duration (drop l.count l.self.rows.items) ≡ 0)

abbrev pub decreases-loop-count : goal.decreases-loop-count
decreases-loop-count l = l.count

-- What is listed is what it was at the start; each turn leaves one segment fewer that has its parts.
use Rattle.std.proofs.Common.{◌≡◌, ◌+◌, ◌-◌, ◌<◌, ◌≤◌, length}
use Rattle.ll_window.specs.Hidden.{AreHidden}
use Rattle.ll_window.specs.Window.{listed}
use Rattle.ll_window.proofs.finished.Finished.hide.Given as goal

abbrev pub invariant-loop : goal.invariant-loop
invariant-loop l =
    AreHidden l.self
    × (0 < l.self.far → l.near ≤ l.self.near_lasting + l.open_duration)
    × (l.self.near_lasting ≤ l.fn.self.near_lasting)
    × (listed l.near l.open_duration l.self.rows.items ≡ listed l.near l.open_duration l.fn.self.rows.items)
    × (l.self.lasting ≡ l.fn.self.lasting)
    × (l.self.discontinuity ≡ l.fn.self.discontinuity)

abbrev pub decreases-loop : goal.decreases-loop
decreases-loop l = length l.self.rows.items - l.self.far

-- Which segments stay and how many broken ones have left is what it was at the start; each turn leaves one segment fewer.
use Rattle.std.proofs.Common.{◌≡◌, ◌+◌, ◌<◌, ◌^◌, length}
use Rattle.ll_window.specs.Hidden.{AreHidden}
use Rattle.ll_window.specs.Rows.{broken_in, lasting}
use Rattle.ll_window.specs.Window.{window, gone}
use Rattle.ll_window.proofs.finished.Finished.shrink.Given as goal

abbrev pub invariant-loop : goal.invariant-loop
invariant-loop l =
    (l.self.lasting ≡ lasting l.self.rows.items)
    × (l.self.discontinuity + broken_in l.self.rows.items < 2 ^ 64)
    × (window l.least l.self.rows.items ≡ window l.least l.fn.self.rows.items)
    × (l.self.discontinuity + broken_in (gone l.least l.self.rows.items) ≡ l.fn.self.discontinuity + broken_in (gone l.least l.fn.self.rows.items))
    × AreHidden l.self
    × (0 < l.self.far → (0 < l.fn.self.far) × (l.self.near_lasting ≡ l.fn.self.near_lasting))

abbrev pub decreases-loop : goal.decreases-loop
decreases-loop l = length l.self.rows.items

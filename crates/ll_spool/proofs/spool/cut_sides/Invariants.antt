-- The renditions so far are cut.
use Rattle.std.proofs.Common.{◌≡◌, take}
use Rattle.ll_layout.specs.Held.{Each}
use Rattle.ll_spool.specs.Files.{AreCut, IsInside}
use Rattle.ll_spool.proofs.spool.cut_sides.Given as goal

abbrev pub invariant-loop-rendition : goal.invariant-loop-rendition
invariant-loop-rendition g l =
    (g.D.Disk.lines l.disk ≡ g.D.Disk.lines l.fn.disk)
    × AreCut (take l.rendition l.layouts) (g.D.Disk.files l.fn.disk) (g.D.Disk.files l.disk)
    × Each IsInside (take l.rendition l.layouts)
    × (g.D.Disk.failures l.disk ≡ g.D.Disk.failures l.fn.disk)

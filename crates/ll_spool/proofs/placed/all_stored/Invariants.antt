-- The bytes of the renditions so far are appended.
use Rattle.std.proofs.Common.{◌≡◌, take}
use Rattle.ll_spool.specs.Placed.{placed_from}
use Rattle.ll_spool.proofs.placed.all_stored.Given as goal

abbrev pub invariant-loop-rendition : goal.invariant-loop-rendition
invariant-loop-rendition l = l.all.items ≡ placed_from 0 (take l.rendition l.layouts)

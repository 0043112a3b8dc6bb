-- What is copied so far is the first renditions.
use Rattle.std.proofs.Common.{◌≡◌, take}
use Rattle.ll_rendition.proofs.rendition.Rendition.copy_all.Given as goal

abbrev pub invariant-loop-rendition : goal.invariant-loop-rendition
invariant-loop-rendition l = l.copies.items ≡ take l.rendition-index l.renditions

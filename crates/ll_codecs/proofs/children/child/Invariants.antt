-- The boxes that are left hold the same first one of the type.
use Rattle.std.proofs.Common.{◌≡◌, length}
use Rattle.ll_codecs.specs.Children.{child}
use Rattle.ll_codecs.proofs.children.child.Given as goal

abbrev pub invariant-boxes : goal.invariant-boxes
invariant-boxes l = child l.fn.kind l.fn.bytes ≡ child l.fn.kind l.rest

abbrev pub decreases-boxes : goal.decreases-boxes
decreases-boxes l = length l.rest

-- What is left of the blocks, without the bytes that are still to be passed, is what follows.
use Rattle.std.proofs.Common.{◌≡◌, drop, length}
use Rattle.std.specs.List.{concat}
use Rattle.ll_wire.proofs.media.MediaBody.after.Given as goal

abbrev pub invariant-loop-block : goal.invariant-loop-block
invariant-loop-block l = drop l.left (concat l.blocks) ≡ drop l.fn.n l.fn.self

abbrev pub decreases-loop-block : goal.decreases-loop-block
decreases-loop-block l = length l.blocks

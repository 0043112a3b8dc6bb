-- What is shared so far are the first parts.
use Rattle.std.proofs.Common.{◌≡◌, take}
use Rattle.ll_wire.proofs.media.blocks_of.Given as goal

abbrev pub invariant-loop-part : goal.invariant-loop-part
invariant-loop-part l = l.blocks.items ≡ take l.part-index l.parts

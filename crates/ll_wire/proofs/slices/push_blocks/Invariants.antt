-- What was added and the blocks that follow are all bytes.
use Rattle.std.proofs.Common.{◌≡◌, ◌++◌, drop}
use Rattle.std.specs.List.{concat}
use Rattle.ll_wire.proofs.slices.push_blocks.Given as goal

abbrev pub invariant-loop-block : goal.invariant-loop-block
invariant-loop-block l = l.text.items ++ concat (drop l.block-index l.blocks) ≡ l.fn.text.items ++ concat l.blocks

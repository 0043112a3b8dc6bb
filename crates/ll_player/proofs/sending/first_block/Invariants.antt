-- The blocks so far are empty.
use Rattle.std.proofs.Common.{◌≡◌, drop}
use Rattle.std.specs.List.{concat}
use Rattle.ll_player.proofs.sending.first_block.Given as goal

abbrev pub invariant-loop-block : goal.invariant-loop-block
invariant-loop-block l = concat l.blocks ≡ concat (drop l.block-index l.blocks)

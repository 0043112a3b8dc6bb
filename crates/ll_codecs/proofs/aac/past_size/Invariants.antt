-- The bytes that are left hold the end of the size.
use Rattle.std.proofs.Common.{◌≡◌, length}
use Rattle.ll_codecs.specs.Aac.{past_size}
use Rattle.ll_codecs.proofs.aac.past_size.Given as goal

abbrev pub invariant-sizes : goal.invariant-sizes
invariant-sizes l = past_size l.fn.bytes ≡ past_size l.left

abbrev pub decreases-sizes : goal.decreases-sizes
decreases-sizes l = length l.left

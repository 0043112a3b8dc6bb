-- What is left has the same bytes before its last zeros.
use Rattle.std.proofs.Common.{◌≡◌, length}
use Rattle.ll_codecs.specs.Hevc.{without_zeros}
use Rattle.ll_codecs.proofs.hevc.without_zeros.Given as goal

abbrev pub invariant-zeros : goal.invariant-zeros
invariant-zeros l = without_zeros l.fn.flags ≡ without_zeros l.left

abbrev pub decreases-zeros : goal.decreases-zeros
decreases-zeros l = length l.left

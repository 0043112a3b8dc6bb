-- The sum so far goes on with the segments that are left.
use Rattle.std.proofs.Common.{◌≡◌, fold, length}
use Rattle.ll_variants.specs.Segments.{no_size, plus}
use Rattle.ll_variants.proofs.rates.average.Given as goal

abbrev pub invariant-segments : goal.invariant-segments
invariant-segments l = fold plus l.sum l.left ≡ fold plus no_size l.fn.segments

abbrev pub decreases-segments : goal.decreases-segments
decreases-segments l = length l.left

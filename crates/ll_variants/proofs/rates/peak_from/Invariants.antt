-- The largest so far, and that of the sums that go on. The sum so far and of those that are left is no larger than that of all.
use Rattle.std.proofs.Common.{◌≡◌, fold, length, max}
use Rattle.ll_variants.proofs.SizeLemmas.{IsWithin}
use Rattle.ll_variants.specs.Rates.{fastest, sums_from}
use Rattle.ll_variants.specs.Segments.{no_size, plus, sum_of}
use Rattle.ll_variants.proofs.rates.peak_from.Given as goal

abbrev pub invariant-segments : goal.invariant-segments
invariant-segments l = record {
  largest : max l.peak (fastest l.fn.target (sums_from l.sum l.left)) ≡ fastest l.fn.target (sums_from no_size l.fn.segments);
  within : IsWithin (fold plus l.sum l.left) (sum_of l.fn.segments);
}

abbrev pub decreases-segments : goal.decreases-segments
decreases-segments l = length l.left

-- The largest so far, and that of the sets among the segments that are left, whose sum is no larger than that of all.
use Rattle.std.proofs.Common.{◌≡◌, length, max}
use Rattle.ll_variants.proofs.SizeLemmas.{IsWithin}
use Rattle.ll_variants.specs.Rates.{peak}
use Rattle.ll_variants.specs.Segments.{sum_of}
use Rattle.ll_variants.proofs.rates.peak.Given as goal

abbrev pub invariant-sets : goal.invariant-sets
invariant-sets l = record {
  largest : max l.peak (peak l.fn.target l.left) ≡ peak l.fn.target l.fn.segments;
  within : IsWithin (sum_of l.left) (sum_of l.fn.segments);
}

abbrev pub decreases-sets : goal.decreases-sets
decreases-sets l = length l.left

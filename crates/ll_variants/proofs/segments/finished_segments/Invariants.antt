-- The segments so far, and those that end with the additions that are left. What is left and the open segment are no larger than all.
use Rattle.std.proofs.Common.{◌≡◌, ◌++◌, fold, length}
use Rattle.ll_variants.proofs.SizeLemmas.{IsWithin}
use Rattle.ll_variants.specs.Segments.{no_size, plus, segments_from, sizes_of, total}
use Rattle.ll_variants.proofs.segments.finished_segments.Given as goal

abbrev pub invariant-additions : goal.invariant-additions
invariant-additions l = record {
  ended : l.segments.items ++ segments_from l.fn.rendition l.sum l.left ≡ segments_from l.fn.rendition no_size l.fn.additions;
  within : IsWithin (fold plus l.sum (sizes_of l.fn.rendition l.left)) (total l.fn.rendition l.fn.additions);
}

abbrev pub decreases-additions : goal.decreases-additions
decreases-additions l = length l.left

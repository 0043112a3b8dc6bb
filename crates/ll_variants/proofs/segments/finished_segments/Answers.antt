-- What additions add is no larger than what all do, also once a segment has ended.
use Rattle.std.proofs.Common.{rules, ◌≡◌, ◌∷◌, arith}
use Rattle.std.proofs.lemmas.Grind.{common_steps}
use Rattle.ll_variants.proofs.SizeLemmas.{large-first, sizes-first, within-ended}
use Rattle.ll_variants.specs.Segments.{IsLarge, plus, sizes_of, total}
use Rattle.ll_variants.proofs.segments.finished_segments.Goals as goal

pub returns-in_err-sum-clause-large : goal.returns-in_err-sum-clause-large
returns-in_err-sum-clause-large c =
    let left : c.additions.left.now ≡ c.in-Some.addition.now ∷ c.in-Some.more.now = search rules in
    let is : c.in-Some.addition.now.rendition ≡ c.args.rendition = search rules in
    let large : IsLarge (plus c.additions.sum c.in-Some.addition.now.size) = search rules in
    let sizes = sizes-first c.args.rendition c.in-Some.addition.now c.additions.left.now c.in-Some.more.now left is in
    λ _. large-first c.additions.sum c.in-Some.addition.now.size (total c.args.rendition c.args.additions.now) (sizes_of c.args.rendition c.additions.left.now)
    (sizes_of c.args.rendition c.in-Some.more.now) sizes c.additions.invariant.within large

pub additions-preserved-else-is_err : goal.additions-preserved-else-is_err
additions-preserved-else-is_err c =
    let left : c.additions.left.now ≡ c.in-Some.addition.now ∷ c.in-Some.more.now = search rules in
    let is : c.in-Some.addition.now.rendition ≡ c.args.rendition = search rules in
    record {
      ended = grind (arith, common_steps);
      within = within-ended c.args.rendition c.additions.sum c.none-sum-then-is_end.result (total c.args.rendition c.args.additions.now) c.in-Some.addition.now
          c.additions.left.now c.in-Some.more.now left is c.none-sum-then-is_end.ensures c.additions.invariant.within;
    }

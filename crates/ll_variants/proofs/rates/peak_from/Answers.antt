-- Sums from this one on last too long, and are no smaller.
use Rattle.std.proofs.Common.{rules, ◌≡◌, ◌∷◌, ◌*◌, ◌<◌}
use Rattle.ll_variants.proofs.RateLemmas.{over_in}
use Rattle.ll_variants.proofs.SizeLemmas.{large-first}
use Rattle.ll_variants.specs.Segments.{IsLarge, plus, sum_of}
use Rattle.ll_variants.proofs.rates.peak_from.Goals as goal

pub returns-then-target-sum : goal.returns-then-target-sum
returns-then-target-sum c =
    let left : c.segments.left.now ≡ c.in-Some.segment.now ∷ c.in-Some.more.now = search rules in
    let over : c.args.target * 1500000 < (plus c.segments.sum c.in-Some.segment.now).duration = search rules in
    over_in c.args.target c.segments.peak _ c.segments.sum c.segments.left.now c.in-Some.segment.now c.in-Some.more.now left over c.segments.invariant.largest

pub returns-in_err-sum : goal.returns-in_err-sum
returns-in_err-sum c =
    let left : c.segments.left.now ≡ c.in-Some.segment.now ∷ c.in-Some.more.now = search rules in
    let large : IsLarge (plus c.segments.sum c.in-Some.segment.now) = search rules in
    let all = large-first c.segments.sum c.in-Some.segment.now (sum_of c.args.segments.now) c.segments.left.now c.in-Some.more.now left c.segments.invariant.within large in
    search (rules, all)

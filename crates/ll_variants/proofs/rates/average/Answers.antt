-- A sum that is large stays large.
use Rattle.std.proofs.Common.{rules, ◌≡◌, ◌∷◌, fold}
use Rattle.ll_variants.proofs.SizeLemmas.{large-first, within-same}
use Rattle.ll_variants.specs.Segments.{IsLarge, plus, sum_of}
use Rattle.ll_variants.proofs.rates.average.Goals as goal

pub returns-in_err-sum : goal.returns-in_err-sum
returns-in_err-sum c =
    let left : c.segments.left.now ≡ c.in-Some.segment.now ∷ c.in-Some.more.now = search rules in
    let within = within-same (fold plus c.segments.sum c.segments.left.now) (sum_of c.args.segments.now) c.segments.invariant in
    let large : IsLarge (plus c.segments.sum c.in-Some.segment.now) = search rules in
    let all : IsLarge (sum_of c.args.segments.now) = large-first c.segments.sum c.in-Some.segment.now (sum_of c.args.segments.now) c.segments.left.now c.in-Some.more.now left within large in
    search (rules, all)

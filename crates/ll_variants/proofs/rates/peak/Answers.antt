-- The sets that begin with the first segment are counted.
use Rattle.std.proofs.Common.{rules, ◌≡◌, ◌∷◌, ◌≤◌, ◌^◌, ◌⊎◌, ap, ◌∙◌, max}
use Rattle.ll_variants.proofs.RateLemmas.{peak_in, peak_large}
use Rattle.ll_variants.proofs.SizeLemmas.{within-later}
use Rattle.ll_variants.specs.Rates.{fastest, peak, sums_from}
use Rattle.ll_variants.specs.Segments.{IsLarge, no_size, sum_of}
use Rattle.ll_variants.proofs.rates.peak.Goals as goal

pub sets-preserved : goal.sets-preserved
sets-preserved c =
    let left : c.sets.left.now ≡ c.in-Some._first.now ∷ c.in-Some.more.now = search rules in
    let larger : c.max-peak.result ≡ max c.sets.peak c.in_ok-peak_from.field-0 = search rules in
    let counted = peak_in c.args.target c.sets.peak c.in_ok-peak_from.field-0 _ c.sets.left.now c.in-Some._first.now c.in-Some.more.now left c.in_ok-peak_from.ensures c.sets.invariant.largest in
    record {
      largest = ap (λ n. max n (peak c.args.target c.in-Some.more.now)) larger ∙ counted;
      within = within-later c.in-Some._first.now (sum_of c.args.segments.now) c.sets.left.now c.in-Some.more.now left c.sets.invariant.within;
    }

pub returns-in_err-peak_from : goal.returns-in_err-peak_from
returns-in_err-peak_from c =
    let left : c.sets.left.now ≡ c.in-Some._first.now ∷ c.in-Some.more.now = search rules in
    let large : IsLarge (sum_of c.sets.left.now) ⊎ (2 ^ 64 ≤ fastest c.args.target (sums_from no_size c.sets.left.now)) = search rules in
    let all = peak_large c.args.target c.sets.peak c.args.segments.now c.sets.left.now c.in-Some._first.now c.in-Some.more.now left c.sets.invariant.largest c.sets.invariant.within large in
    search (rules, all)

-- The bytes of one rendition more are appended.
use Rattle.std.proofs.Common.{rules, ◌≡◌, ◌<◌, ◌+◌, ◌++◌, ◌∷◌, [], ◌∙◌, ap, arith, get_or, length, sym, take}
use Rattle.std.proofs.lemmas.List.{length-take-le, take_more}
use Rattle.ll_layout.specs.Held.{stored}
use Rattle.ll_spool.proofs.PlacedLemmas.{placed_more}
use Rattle.ll_spool.specs.Placed.{placed_from, placed_in}
use Rattle.ll_spool.proofs.placed.all_stored.Goals as goal

pub loop-rendition-preserved : goal.loop-rendition-preserved
loop-rendition-preserved c =
    let i = c.loop-rendition.rendition in
    let ls = c.args.layouts.now in
    let l = c.index-layouts-rendition.result in
    let few : i < length ls = omega (arith, c.loop-rendition-test.true) in
    let is : get_or ls i l ≡ l = search rules in
    let more : take (i + 1) ls ≡ take i ls ++ l ∷ [] = take_more ls i l few ∙ ap (λ k. take i ls ++ k ∷ []) is in
    let long = length-take-le i ls (omega (arith, few)) in
    c.in_ok-push_layout.ensures
    ∙ ap (λ ps. ps ++ placed_in i (stored l)) c.loop-rendition.invariant
    ∙ sym (placed_more 0 i (take i ls) l (omega (arith, long)))
    ∙ ap (placed_from 0) (sym more)

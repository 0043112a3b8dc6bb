-- One rendition more is cut.
use Rattle.std.proofs.Common.{rules, ◌≡◌, ◌<◌, ◌+◌, ◌++◌, ◌∷◌, [], ◌∙◌, List, ap, arith, get_or, length, refl, subst, sym, take}
use Rattle.std.proofs.lemmas.List.{length-take-le, take_more}
use Rattle.ll_layout.specs.Held.{Each, LayoutValue}
use Rattle.ll_spool.proofs.BeginLemmas.{cut_more, cut_none, inside_more}
use Rattle.ll_spool.specs.Files.{AreCut, IsInside}
use Rattle.ll_spool.proofs.spool.cut_sides.Goals as goal

pub loop-rendition-init : goal.loop-rendition-init
loop-rendition-init g c = (refl, cut_none (g.D.Disk.files c.args.disk.now), tt, refl)

pub loop-rendition-preserved : goal.loop-rendition-preserved
loop-rendition-preserved g c =
    let i = c.loop-rendition.rendition in
    let ls = c.args.layouts.now in
    let l = c.index-layouts-rendition.result in
    let old = g.D.Disk.files c.args.disk.now in
    let mid = g.D.Disk.files c.loop-rendition.disk in
    let new = g.D.Disk.files c.cut_both.new.disk in
    let before = c.loop-rendition.invariant in
    let few : i < length ls = omega (arith, c.loop-rendition-test.true) in
    let is : get_or ls i l ≡ l = search rules in
    let more : take (i + 1) ls ≡ take i ls ++ l ∷ [] = take_more ls i l few ∙ ap (λ k. take i ls ++ k ∷ []) is in (
      c.cut_both.ensures.text ∙ before.0,
      subst (λ (ks : List LayoutValue). AreCut ks old new) (sym more)
          (cut_more i (take i ls) l old mid new (sym (length-take-le i ls (omega (arith, few)))) before.1 c.in_ok-cut_both.ensures.cut),
      subst (Each IsInside) (sym more) (inside_more IsInside (take i ls) l before.2 c.in_ok-cut_both.ensures.inside),
      c.in_ok-cut_both.ensures.steady ∙ before.3,
    )

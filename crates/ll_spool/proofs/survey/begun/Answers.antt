-- All renditions have the layout of no items.
use Rattle.std.proofs.Common.{rules, ◌≡◌, ◌∙◌, ℕ, List, ap, arith, length, map, take}
use Rattle.std.proofs.lemmas.List.{take_all}
use Rattle.ll_layout.specs.Held.{begun}
use Rattle.ll_spool.proofs.LayoutLemmas.{begun_all}
use Rattle.ll_spool.proofs.survey.begun.Goals as goal

pub returns : goal.returns
returns c =
    let names = c.renditions-names.result.now in
    let settings = c.args.settings.now in
    let end : c.loop-name._name-index ≡ length names = search rules in
    let done : take c.loop-name._name-index names ≡ names = take_all c.loop-name._name-index names (omega (arith, end)) in
    c.loop-name.invariant ∙ ap (map (λ (name : List ℕ). begun settings)) (done ∙ c.renditions-names.ensures.value) ∙ begun_all settings

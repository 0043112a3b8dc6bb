-- Those of other numbers stay, and the new one stands after them.
use Rattle.std.proofs.Common.{rules, ap, ◌++◌, ◌∷◌, [], ◌∙◌}
use Rattle.std.proofs.lemmas.Fn.{filter_same}
use Rattle.ll_store.specs.declared.segment.Section.{Section}
use Rattle.ll_store.proofs.store.set.Goals as goal

pub returns : goal.returns
returns c =
    c.push_reserved.ensures.items
    ∙ ap (λ kept. let new : Section = record { number = c.args.number; bytes = c.args.bytes } in kept ++ new ∷ [])
    (filter_same _ _ _ (λ x b f' k. search rules) _ _ c.retain.ensures.filtered)

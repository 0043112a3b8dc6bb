-- The next number is above all numbers on the shelf, so the value is put last.
use Rattle.std.proofs.Common.{slice_index_or, ◌∙◌, ap, ◌++◌, ◌∷◌, [], ◌<◌, ◌+◌, subst, sym, arith}
use Rattle.std.specs.Ordering.{nat_cmp}
use Rattle.std.specs.List.{All}
use Rattle.std.specs.Map.{keys_of}
use Rattle.std.proofs.lemmas.Map.Views.{All-keys-insert_entry}
use Rattle.std.proofs.lemmas.Option.{none-some}
use Rattle.ll_script_rooms.proofs.ShelfLemmas.{none_above, put_last}
use Rattle.ll_script_rooms.proofs.shelf.Shelf.put.Goals as goal

pub unreachable-requires : goal.unreachable-requires
unreachable-requires c =
    none-some _ (sym (none_above c.self.inside.next c.self.inside.slots.entries c.self.invariant) ∙ sym c.in-Ok-Some.ensures.old ∙ c.in-Ok-Some.field-0-is)

pub invariant_of-self : goal.invariant_of-self
invariant_of-self c =
    subst (λ es. All (λ k. k < c.self.inside.next + 1) (keys_of es)) (sym c.in-Ok-None.ensures.entries)
    (All-keys-insert_entry nat_cmp c.self.inside.next _ (λ k. k < c.self.inside.next + 1) c.self.inside.slots.entries
    (λ k d lt. let h : slice_index_or (keys_of c.self.inside.slots.entries) k d < c.self.inside.next = c.self.invariant k d lt in omega (arith, h)) (omega arith))

pub returns-in-Ok-None-clause-put : goal.returns-in-Ok-None-clause-put
returns-in-Ok-None-clause-put c =
    c.in-Ok-None.ensures.entries ∙ put_last _ _ _ c.self.invariant ∙ ap (λ es. es ++ (c.self.inside.next, c.args.parked) ∷ []) c.self.view_is

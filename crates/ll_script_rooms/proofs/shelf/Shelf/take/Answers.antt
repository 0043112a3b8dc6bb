-- The numbers that are left are below the next one.
use Rattle.std.proofs.Common.{◌<◌, subst, sym}
use Rattle.std.specs.Ordering.{nat_cmp}
use Rattle.std.specs.List.{All}
use Rattle.std.specs.Map.{keys_of}
use Rattle.std.specs.BTreeMap.{is_at}
use Rattle.std.proofs.lemmas.Map.Views.{All-map-remove_entry}
use Rattle.ll_script_rooms.proofs.shelf.Shelf.take.Goals as goal

pub invariant_of-self : goal.invariant_of-self
invariant_of-self c =
    subst (λ es. All (λ k. k < c.self.inside.next) (keys_of es)) (sym c.remove.ensures.entries)
    (All-map-remove_entry (is_at (nat_cmp c.args.number)) (λ e. e.0) (λ k. k < c.self.inside.next) c.self.inside.slots.entries c.self.invariant)

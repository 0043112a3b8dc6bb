-- A row is put into both orders and stands last; if it is out of memory, it is removed from them again.
use Rattle.std.proofs.Common.{◌∙◌, ◌+◌, ◌++◌, ◌∷◌, [], ap, refl, subst}
use Rattle.ll_book.specs.Places.{Adds, Removes}
use Rattle.ll_script_rooms.specs.declared.held_request.HeldRequest.{HeldRequest}
use Rattle.ll_script_rooms.proofs.BookLemmas.{book_more, book_ticket_undone, book_undone, fresh, waits_more}
use Rattle.ll_script_rooms.proofs.held.Held.put.Goals as goal

pub invariant_of-self-in_default-add : goal.invariant_of-self-in_default-add
invariant_of-self-in_default-add c =
    let r : HeldRequest = record { number = c.self.inside.last + 1; owner = c.args.owner; parked = c.args.parked } in
    book_ticket_undone _ _ _ _ c.self.invariant r refl _ _ _ c.in_default-add.ensures.unchanged
    (subst (λ p. Adds p c.self.inside.tickets c.add.new.self) c.by_ticket-by_ticket.ensures c.in-Ok.ensures.added)
    (subst (λ p. Removes p c.add.new.self c.remove.new.self) c.by_ticket-by_ticket.ensures c.remove.ensures)

pub insert-requires : goal.insert-requires
insert-requires c = fresh _ _ _ _ c.self.invariant

pub invariant_of-self-in-Ok-insert : goal.invariant_of-self-in-Ok-insert
invariant_of-self-in-Ok-insert c =
    let r : HeldRequest = record { number = c.self.inside.last + 1; owner = c.args.owner; parked = c.args.parked } in
    book_more _ _ _ _ c.self.invariant r refl _ _ _ c.in-Ok-insert.ensures.put
    (subst (λ p. Adds p c.self.inside.tickets c.add.new.self) c.by_ticket-by_ticket.ensures c.in-Ok.ensures.added)
    (subst (λ p. Adds p c.self.inside.owners c.add-2.new.self) c.by_owner-by_owner.ensures c.in-Ok-add.ensures.added)

pub invariant_of-self-in-Err : goal.invariant_of-self-in-Err
invariant_of-self-in-Err c =
    let r : HeldRequest = record { number = c.self.inside.last + 1; owner = c.args.owner; parked = c.args.parked } in
    book_undone _ _ _ _ c.self.invariant r refl _ _ _ _ _ c.in-Err.ensures.handed_back.1
    (subst (λ p. Adds p c.self.inside.tickets c.add.new.self) c.by_ticket-by_ticket.ensures c.in-Ok.ensures.added)
    (subst (λ p. Removes p c.add.new.self c.remove-in-Err.new.self) c.by_ticket-by_ticket.ensures c.remove-in-Err.ensures)
    (subst (λ p. Adds p c.self.inside.owners c.add-2.new.self) c.by_owner-by_owner.ensures c.in-Ok-add.ensures.added)
    (subst (λ p. Removes p c.add-2.new.self c.remove-in-Err-2.new.self) c.by_owner-by_owner.ensures c.remove-in-Err-2.ensures)

pub returns-in-Ok-insert-clause-put : goal.returns-in-Ok-insert-clause-put
returns-in-Ok-insert-clause-put c =
    let r : HeldRequest = record { number = c.self.inside.last + 1; owner = c.args.owner; parked = c.args.parked } in
    waits_more _ _ _ _ c.self.invariant r refl _ c.in-Ok-insert.ensures.put
    ∙ ap (λ ws. ws ++ record { owner = c.args.owner; place = c.args.parked.channel; ticket = c.args.parked.ticket } ∷ []) c.self.view_is

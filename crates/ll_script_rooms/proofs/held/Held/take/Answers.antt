-- The row of the first number at this place under this ticket leaves the rows and both orders.
use Rattle.std.proofs.Common.{Some, ◌∙◌, ap, map, option_map, subst, sym}
use Rattle.std.specs.Map.{values_of}
use Rattle.ll_book.specs.Places.{Removes}
use Rattle.ll_script_rooms.specs.Book.{wait_in}
use Rattle.ll_script_rooms.specs.Waits.{is_under, parked_of, under, without}
use Rattle.ll_script_rooms.proofs.BookLemmas.{book_left, none_left, none_under, row_under, there_under, waits_left}
use Rattle.ll_script_rooms.proofs.held.Held.take.Goals as goal

pub returns-in_err-number-clause-value : goal.returns-in_err-number-clause-value
returns-in_err-number-clause-value c =
    c.from_residual.ensures
    ∙ ap (option_map parked_of) (sym (none_under _ _ _ _ c.self.invariant c.args.place c.args.ticket c.in_err-number.ensures.none) ∙ ap (under c.args.place c.args.ticket) c.self.view_is)

pub returns-in_err-number-clause-left : goal.returns-in_err-number-clause-left
returns-in_err-number-clause-left c =
    sym (none_left (is_under c.args.place c.args.ticket) c.args.self.now
    (ap (under c.args.place c.args.ticket) (sym c.self.view_is) ∙ none_under _ _ _ _ c.self.invariant c.args.place c.args.ticket c.in_err-number.ensures.none))

pub invariant_of-self : goal.invariant_of-self
invariant_of-self c =
    book_left _ _ _ _ c.self.invariant c.in_ok-number.number c.in-Some.row (sym c.in-Some.ensures.value) _ _ _ c.remove.ensures.entries
    (subst (λ p. Removes p c.self.inside.tickets c.remove-in-Some.new.self) c.by_ticket.ensures c.remove-in-Some.ensures)
    (subst (λ p. Removes p c.self.inside.owners c.remove-in-Some-2.new.self) c.by_owner.ensures c.remove-in-Some-2.ensures)

pub unreachable-requires : goal.unreachable-requires
unreachable-requires c =
    there_under _ _ _ _ c.self.invariant c.args.place c.args.ticket c.in_ok-number.number c.in_ok-number.ensures.some (sym c.in-None.ensures.value)

pub returns-clause-value : goal.returns-clause-value
returns-clause-value c =
    ap Some c.into_parked.ensures ∙ ap (λ r. option_map parked_of (option_map wait_in r)) c.in-Some.ensures.value
    ∙ ap (option_map parked_of) (sym (row_under _ _ _ _ c.self.invariant c.args.place c.args.ticket c.in_ok-number.number c.in_ok-number.ensures.some)
    ∙ ap (under c.args.place c.args.ticket) c.self.view_is)

pub returns-clause-left : goal.returns-clause-left
returns-clause-left c =
    ap (λ rs. map wait_in (values_of rs)) c.remove.ensures.entries
    ∙ waits_left _ _ _ _ c.self.invariant c.in_ok-number.number c.in-Some.row (sym c.in-Some.ensures.value) c.args.place c.args.ticket c.in_ok-number.ensures.some
    ∙ ap (without c.args.place c.args.ticket) c.self.view_is

-- A request is put into both orders and stands last; if memory is missing, it leaves them again.
use Rattle.std.proofs.Common.{subst, sym, arith}
use Rattle.ll_book.specs.Places.{Adds, IsOrder, Removes}
use Rattle.ll_verdict.specs.State.{is_waiting}
use Rattle.ll_verdict.specs.Waiting.{AreBelow, ticket_in}
use Rattle.ll_book.specs.Orders.{IsBook, time_at}
use Rattle.ll_book.proofs.BookLemmas.{book_pushed, book_undone, times_undone}
use Rattle.ll_book.proofs.book.Book.hold.Goals as goal

pub invariant_of-self-in-Err : goal.invariant_of-self-in-Err
invariant_of-self-in-Err c =
    book_undone _ _ _ _ _ c.self.invariant c.args.entry _ _ _ _ _ (subst (AreBelow c.args.entry.ticket) (sym c.self.view_is) c.requires.newest)
    (subst (λ p. Adds p c.self.inside.wants c.add.new.self) c.want_of.ensures c.in_ok-add.ensures.added)
    (subst (λ p. Removes p c.add.new.self c.remove.new.self) c.want_of-in-Err.ensures c.remove.ensures)
    (subst (IsOrder ticket_in is_waiting time_at c.self.inside.slots) (sym c.in-Err.ensures.unchanged) c.self.invariant.timed)
    c.reserve.ensures.tickets c.reserve.ensures.no_less

pub invariant_of-self-in-Err-push : goal.invariant_of-self-in-Err-push
invariant_of-self-in-Err-push c =
    let newest = subst (AreBelow c.args.entry.ticket) (sym c.self.view_is) c.requires.newest in
    subst (λ ss. IsBook ss c.remove-in-Err-push-2.new.self c.remove-in-Err-push.new.self c.reserve.new.self.tickets c.reserve.new.self.memory) (sym c.in-Err-push.ensures.unchanged)
    (book_undone _ _ _ _ _ c.self.invariant c.args.entry _ _ _ _ _ newest
    (subst (λ p. Adds p c.self.inside.wants c.add.new.self) c.want_of.ensures c.in_ok-add.ensures.added)
    (subst (λ p. Removes p c.add.new.self c.remove-in-Err-push-2.new.self) c.want_of-in-Err-push.ensures c.remove-in-Err-push-2.ensures)
    (times_undone _ _ _ _ _ c.self.invariant c.args.entry _ _ newest
    (subst (λ p. Adds p c.self.inside.times c.add-2.new.self) c.time_of.ensures c.in_default.ensures.added)
    (subst (λ p. Removes p c.add-2.new.self c.remove-in-Err-push.new.self) c.time_of-in-Err-push.ensures c.remove-in-Err-push.ensures))
    c.reserve.ensures.tickets c.reserve.ensures.no_less)

pub invariant_of-self-in_default-push : goal.invariant_of-self-in_default-push
invariant_of-self-in_default-push c =
    subst (λ ss. IsBook ss c.add.new.self c.add-2.new.self c.reserve.new.self.tickets c.reserve.new.self.memory) (sym c.in_default-push.ensures.pushed)
    (book_pushed _ _ _ _ _ c.self.invariant c.args.entry _ _ _ _ c.requires.first (subst (AreBelow c.args.entry.ticket) (sym c.self.view_is) c.requires.newest)
    (subst (λ p. Adds p c.self.inside.wants c.add.new.self) c.want_of.ensures c.in_ok-add.ensures.added)
    (subst (λ p. Adds p c.self.inside.times c.add-2.new.self) c.time_of.ensures c.in_default.ensures.added)
    c.reserve.ensures.tickets (let room = c.in_ok-reserve.ensures.memory in omega (arith, room, c.len.ensures.value)))

-- A request leaves both orders, and its reply is there.
use Rattle.std.proofs.Common.{subst, sym}
use Rattle.ll_book.specs.Places.{Removes}
use Rattle.ll_book.specs.Orders.{IsWaiting}
use Rattle.ll_book.proofs.BookLemmas.{book_given, found_above, some_room}
use Rattle.ll_book.proofs.book.Book.settle.Goals as goal

pub put-requires-clause-first : goal.put-requires-clause-first
put-requires-clause-first c = found_above 0 c.args.entry c.self.inside.slots c.self.invariant.rising (subst (IsWaiting c.args.entry) (sym c.self.view_is) c.requires)

pub put-requires-clause-memory : goal.put-requires-clause-memory
put-requires-clause-memory c = some_room _ _ _ _ _ c.self.invariant c.args.entry (subst (IsWaiting c.args.entry) (sym c.self.view_is) c.requires)

pub invariant_of-self : goal.invariant_of-self
invariant_of-self c =
    book_given _ _ _ _ _ c.self.invariant c.args.entry c.args.settled _ _ _ _ _ (subst (IsWaiting c.args.entry) (sym c.self.view_is) c.requires)
    (subst (λ p. Removes p c.self.inside.wants c.remove.new.self) c.want_of.ensures c.remove.ensures)
    (subst (λ p. Removes p c.self.inside.times c.remove-2.new.self) c.time_of.ensures c.remove-2.ensures)
    c.put.ensures.found c.put.ensures.rising c.put.ensures.count c.put.ensures.memory c.settle.ensures

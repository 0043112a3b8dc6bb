-- A request leaves both orders.
use Rattle.std.proofs.Common.{◌∙◌, ap, subst}
use Rattle.ll_book.specs.Places.{Removes}
use Rattle.ll_verdict.specs.Waiting.{found}
use Rattle.ll_book.proofs.BookLemmas.{book_forgotten}
use Rattle.ll_book.proofs.book.Book.forget.Goals as goal

pub invariant_of-self : goal.invariant_of-self
invariant_of-self c =
    book_forgotten _ _ _ _ _ c.self.invariant c.args.entry _ _ _ _ _ (ap (found c.args.entry.ticket) c.self.view_is ∙ c.requires)
    (subst (λ p. Removes p c.self.inside.wants c.remove.new.self) c.want_of.ensures c.remove.ensures)
    (subst (λ p. Removes p c.self.inside.times c.remove-2.new.self) c.time_of.ensures c.remove-2.ensures)
    c.remove-3.ensures.tickets c.remove-3.ensures.memory c.remove-4.ensures.left

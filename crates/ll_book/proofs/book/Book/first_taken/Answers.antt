-- The request of the first covered place waits; if no place is covered, the release takes none.
use Rattle.std.proofs.Common.{subst}
use Rattle.ll_book.specs.Numbers.{AreRising}
use Rattle.ll_verdict.specs.Waiting.{ticket_in}
use Rattle.ll_book.specs.Orders.{NoneTaken}
use Rattle.ll_book.proofs.TakeLemmas.{none_if, none_taken}
use Rattle.ll_book.proofs.book.Book.first_taken.Goals as goal

pub returns-in_err-place-clause-none : goal.returns-in_err-place-clause-none
returns-in_err-place-clause-none c =
    none_if c.from_residual.result _ (none_taken c.args.which c.args.self.now (subst (AreRising ticket_in 0) c.self.view_is c.self.invariant.rising)
    (subst (λ p. NoneTaken c.args.which p c.args.self.now) c.start.ensures c.in_err-place.ensures.none))

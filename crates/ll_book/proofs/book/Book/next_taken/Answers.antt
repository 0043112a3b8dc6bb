-- If any later place is covered, the first one is.
use Rattle.std.proofs.Common.{◌∙◌, subst, sym}
use Rattle.ll_book.specs.Orders.{IsNextTaken, NoneTaken}
use Rattle.ll_book.proofs.TakeLemmas.{next_taken, none_if, nothing_after, uncovered_after}
use Rattle.ll_book.proofs.book.Book.next_taken.Goals as goal

pub returns-in_err-place-clause-none : goal.returns-in_err-place-clause-none
returns-in_err-place-clause-none c =
    none_if c.from_residual.result _ (subst (NoneTaken c.args.which c.args.after) c.self.view_is (nothing_after c.self.inside.slots c.self.inside.wants c.args.which c.self.invariant.wanted c.args.after c.in_err-place.ensures.none))

pub returns-then-not-covers-clause-none : goal.returns-then-not-covers-clause-none
returns-then-not-covers-clause-none c =
    subst (NoneTaken c.args.which c.args.after) c.self.view_is
    (uncovered_after c.self.inside.slots c.self.inside.wants c.args.which c.self.invariant.wanted c.args.after c.in_ok-place.place c.requires.started c.in_ok-place.ensures.some (sym c.covers.ensures ∙ c.if-not-covers.true))

pub returns-clause-some : goal.returns-clause-some
returns-clause-some c =
    subst (IsNextTaken c.args.which c.args.after c.in_ok-place.place) c.self.view_is
    (next_taken c.self.inside.slots c.self.inside.wants c.args.which c.self.invariant.wanted c.args.after c.in_ok-place.place c.in_ok-place.ensures.some (sym c.covers.ensures ∙ c.if-not-covers.false))

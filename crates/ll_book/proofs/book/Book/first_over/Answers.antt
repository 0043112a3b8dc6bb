-- The request of the first deadline waits; if that deadline isn't reached, none is.
use Rattle.std.proofs.Common.{◌≤◌, ◌∙◌, ap, filter, subst, sym}
use Rattle.ll_verdict.specs.Waiting.{found}
use Rattle.ll_book.specs.Orders.{IsWaiting}
use Rattle.ll_book.specs.Release.{is_over}
use Rattle.ll_book.proofs.TakeLemmas.{if_some, none_if, none_over, nothing_over, over_waits}
use Rattle.ll_book.proofs.book.Book.first_over.Goals as goal

pub returns-in_err-place-clause-none : goal.returns-in_err-place-clause-none
returns-in_err-place-clause-none c =
    none_if c.from_residual.result _ (ap (filter (is_over c.args.now)) (sym c.self.view_is)
    ∙ nothing_over c.self.inside.slots c.self.inside.times c.args.now c.self.invariant.rising c.self.invariant.timed c.in_err-place.ensures.none)

pub returns-then-now-place-clause-none : goal.returns-then-now-place-clause-none
returns-then-now-place-clause-none c =
    ap (filter (is_over c.args.now)) (sym c.self.view_is)
    ∙ none_over c.self.inside.slots c.self.inside.times c.args.now c.self.invariant.rising c.self.invariant.timed c.in_ok-place.place c.in_ok-place.ensures.some c.if-now-place.true

pub returns-clause-some : goal.returns-clause-some
returns-clause-some c =
    if_some c.find.result _ (λ e h. subst (λ ss. IsWaiting e ss × (e.deadline ≤ c.args.now)) c.self.view_is
    (over_waits c.self.inside.slots c.self.inside.times c.args.now c.self.invariant.rising c.self.invariant.timed c.in_ok-place.place e c.in_ok-place.ensures.some c.if-now-place.false
    (h ∙ c.find.ensures ∙ ap (found c.in_ok-place.place.number) (sym c.self.view_is))))

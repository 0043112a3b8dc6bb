-- Each line that is given is answered once.
use Rattle.std.proofs.Common.{ap, refl, sym, ◌∙◌}
use Rattle.ll_publisher.specs.Publishing.{Caller}
use Rattle.ll_publisher.proofs.ServingLemmas.{broken-by, broken-told, broken-untold, serving-drained, serving-more}
use Rattle.ll_publisher.proofs.publisher.answer.Goals as goal

pub loop-init : goal.loop-init
loop-init g c = record { steady = refl; unread = refl; serving = λ taken start base s. s }

pub loop-preserved : goal.loop-preserved
loop-preserved g c = record {
  steady = c.in_ok-tell.ensures.faults ∙ c.loop.invariant.steady;
  unread = c.in_ok-tell.ensures.unread ∙ c.loop.invariant.unread;
  serving =
      λ taken start base s. serving-more _ taken _ _ start _ _ base _ _ _ _ _ (c.loop.invariant.serving taken start base s) (sym c.in-Some-next.ensures.line)
      c.next-in-loop.follows.holds-at-none c.in_ok-reply.ensures.right c.in_ok-reply.ensures.remembered c.in_ok-tell.ensures.sent;
}

pub returns-in_default-clause-served : goal.returns-in_default-clause-served
returns-in_default-clause-served g c = λ taken start base s.
    serving-drained _ taken _ _ start _ base _ (c.loop.invariant.serving taken start base s) (sym c.in_default.ensures.line) c.next-in-loop.follows.holds-at-none

pub returns-in_err-reply-clause-broken : goal.returns-in_err-reply-clause-broken
returns-in_err-reply-clause-broken g c =
    broken-by _ _ _ _ _ _ _ _ _ _ c.loop.invariant.serving
    (λ taken start base s. broken-untold _ taken _ start _ _ base _ _ s (sym c.in-Some-next.ensures.line) c.in_err-reply.ensures.unanswered)

pub returns-in_err-tell-clause-broken : goal.returns-in_err-tell-clause-broken
returns-in_err-tell-clause-broken g c =
    broken-by _ _ _ _ _ _ _ _ _ _ c.loop.invariant.serving
    (λ taken start base s. broken-told _ taken _ start _ _ base _ _ _ _ _ s (sym c.in-Some-next.ensures.line) c.in_ok-reply.ensures.right (ap (λ (c : Caller). c.pass) c.in_ok-reply.ensures.remembered)
    c.in_err-tell.ensures.cut)

-- Each turn takes one head, and a want, a part of a head or a refusal that ends the connection is the last.
use Rattle.std.proofs.Common.{◌≡◌, ◌∙◌, ap, length-drop, arith, rules, length, sym, true, false}
use Rattle.std.proofs.lemmas.List.{drop-drop, drop_all}
use Rattle.ll_session.proofs.TakingLemmas.{at_part, at_fault, at_want, at_last, at_refused}
use Rattle.ll_session.proofs.taken.take_front.Goals as goal

pub returns-in-Part-clause-stands : goal.returns-in-Part-clause-stands
returns-in-Part-clause-stands c = rw c.nothing.ensures (at_part _ _ _ _ c.from-rest.ensures c.loop-told.invariant.stands c.in-Part.ensures.value)

pub returns-in-Bad-clause-stands : goal.returns-in-Bad-clause-stands
returns-in-Bad-clause-stands c =
    rw (c.ending.ensures, c.in_ok-tell-in-Bad.ensures, drop_all (length c.args.unread.now) c.args.unread.now (omega arith))
    (at_fault _ _ _ _ c.from-rest.ensures c.loop-told.invariant.stands c.in-Bad.fault c.in-Bad.ensures.value)

pub returns-in-Ok-clause-stands : goal.returns-in-Ok-clause-stands
returns-in-Ok-clause-stands c =
    rw (c.want_at.ensures, ← drop-drop c.in-Whole.len c.loop-told.at c.args.unread.now)
    (at_want _ _ _ _ c.from-rest.ensures c.loop-told.invariant.stands _ c.in-Ok.want c.in-Whole.ensures.value (sym c.in-Ok.is ∙ c.in_ok-want.ensures))

pub returns-then-not-request-clause-stands : goal.returns-then-not-request-clause-stands
returns-then-not-request-clause-stands c =
    let last : c.in-Whole.request.keep ≡ false = search rules in
    rw (c.ending-then-not-request.ensures, c.in_ok-tell-in-Err.ensures, last, drop_all (length c.args.unread.now) c.args.unread.now (omega arith))
    (at_last _ _ _ _ c.from-rest.ensures c.loop-told.invariant.stands _ c.in-Err.fault c.in-Whole.ensures.value (sym c.in-Err.is ∙ c.in_ok-want.ensures) last)

pub loop-told-preserved : goal.loop-told-preserved
loop-told-preserved c =
    let kept : c.in-Whole.request.keep ≡ true = search rules in
    record {
      within = omega (arith, c.in-Whole.ensures.within, ap length c.from-rest.ensures, length-drop c.loop-told.at c.args.unread.now, c.loop-told.invariant.within);
      stands =
          rw (c.in_ok-tell-in-Err.ensures, kept, ← drop-drop c.in-Whole.len c.loop-told.at c.args.unread.now)
          (at_refused _ _ _ _ c.from-rest.ensures c.loop-told.invariant.stands _ c.in-Err.fault c.in-Whole.ensures.value (sym c.in-Err.is ∙ c.in_ok-want.ensures) kept);
    }

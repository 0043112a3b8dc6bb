-- Each message that is given adds to those that were.
use Rattle.std.proofs.Common.{◌∙◌, arith, inr, Err, Some, ap, refl, rules, subst, sym}
use Rattle.ll_push.specs.Meaning.{targeted}
use Rattle.ll_push.specs.Publishing.{at_start, told_ahead}
use Rattle.ll_push.specs.declared.fault.PushFault.TheVariants.{Input}
use Rattle.ll_push.proofs.ExchangeLemmas.{same-fault}
use Rattle.ll_pair.proofs.FedLemmas.{Fed_so_far, all-given, given-left, given-more, given-none, most-given, none-given}
use Rattle.ll_pair.proofs.feeding.feed_on.Goals as goal

pub loop-init : goal.loop-init
loop-init g c = record {
  fed = λ ahead before told known.
      subst (λ p. Fed_so_far (targeted c.args.target.now) (at_start (targeted c.args.target.now) c.args.standing.now) ahead before p
      (told_ahead (g.R.Reader.left c.args.source.now) (g.C.Calendar.coming c.args.clock.now)) (g.O.Outlets.given c.args.outlets.now) 0)
      (sym c.requires) (none-given _ _ _ _ _ _ told known);
  later = search rules;
  steady = refl;
  calm = refl;
}

pub returns-in_err-message-clause-refused : goal.returns-in_err-message-clause-refused
returns-in_err-message-clause-refused g c ahead before fault told known e =
    all-given (targeted c.args.target.now) (at_start (targeted c.args.target.now) c.args.standing.now) ahead before _ _ _ _ (c.loop.invariant.fed ahead before told known) (Some fault)
    (λ rest left. c.in_err-message.ensures.refused rest fault left
    (ap (λ f. Err f) (same-fault c.from_residual.result c.in_err-message.field-0.0 (Input fault) c.from_residual.ensures.1 e)))

pub returns-in_default-clause-fed : goal.returns-in_default-clause-fed
returns-in_default-clause-fed g c ahead before told known =
    given-none (targeted c.args.target.now) (at_start (targeted c.args.target.now) c.args.standing.now) ahead before _ _ _ _ (c.loop.invariant.fed ahead before told known) c.message.new.self
    (told_ahead (g.R.Reader.left c.message.new.source) (g.C.Calendar.coming c.message.new.clock)) c.in_ok-message.field-0 c.in_ok-message.ensures.next c.in_default.is

pub returns-then-not-branch-clause-fed : goal.returns-then-not-branch-clause-fed
returns-then-not-branch-clause-fed g c ahead before told known =
    given-left _ _ _ _ _ _ _ _ (c.loop.invariant.fed ahead before told known) c.message.new.self
    (told_ahead (g.R.Reader.left c.message.new.source) (g.C.Calendar.coming c.message.new.clock)) c.in_ok-message.field-0 c.in_ok-message.ensures.next c.in-Some.message c.in-Some.is _
    c.in_ok-give.field-0 c.in_ok-give.ensures c.if-not-branch.true

pub loop-preserved : goal.loop-preserved
loop-preserved g c = record {
  fed = λ ahead before told known.
      given-more _ _ _ _ _ _ _ _ (c.loop.invariant.fed ahead before told known) c.message.new.self
      (told_ahead (g.R.Reader.left c.message.new.source) (g.C.Calendar.coming c.message.new.clock)) c.in_ok-message.field-0 c.in_ok-message.ensures.next c.in-Some.message c.in-Some.is _
      c.in_ok-give.field-0 c.in_ok-give.ensures c.if-not-branch.false;
  later = omega (arith, c.loop.invariant.later, c.in_ok-message.ensures.later);
  steady = c.in_ok-message.ensures.steady.0 ∙ c.loop.invariant.steady;
  calm = c.in_ok-message.ensures.steady.1 ∙ c.loop.invariant.calm;
}

pub returns-clause-endless : goal.returns-clause-endless
returns-clause-endless g c ahead before told known e =
    inr (most-given _ _ _ _ _ _ _ _ (c.loop.invariant.fed ahead before told known) (omega (arith, c.loop-test.false, c.loop.auto.counter-end)))

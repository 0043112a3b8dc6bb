-- Each message adds to those that were sent.
use Rattle.std.proofs.Common.{◌∙◌, ◌+◌, true, arith, inr, rules, Err, Some, None, ap, refl, sym, subst}
use Rattle.ll_push.specs.Exchanges.{link_value}
use Rattle.ll_push.specs.Faults.{most}
use Rattle.ll_announce.specs.Places.{led}
use Rattle.ll_push.specs.Meaning.{targeted}
use Rattle.ll_push.specs.Next.{IsDelivered}
use Rattle.ll_push.specs.Publishing.{told_ahead}
use Rattle.ll_push.specs.declared.fault.PushFault.TheVariants.{Input, BadAnswer}
use Rattle.ll_push.proofs.ExchangeLemmas.{on-err, same-fault}
use Rattle.ll_push.proofs.StepLemmas.{SoFar, all-sent, delivered, goes-first, many-sent, message-cut, message-failed, message-kept, message-none, message-refused, some-sent}
use Rattle.ll_push.proofs.publication.Publication.publish.Goals as goal

pub loop-init : goal.loop-init
loop-init g c = record {
  goes = λ a told. goes-first (targeted c.args.target.now) c.args.self.now a (link_value g.P.Writer.written g.P.Writer.inward g.P.Writer.failures c.args.link.now)
      (told_ahead (g.R.Reader.left c.args.source.now) (g.C.Calendar.coming c.args.clock.now)) told;
  later = search rules;
  steady = refl;
  calm = refl;
}

pub returns-in_err-message-clause-cut : goal.returns-in_err-message-clause-cut
returns-in_err-message-clause-cut g c a told = on-err c.from_residual.result _ (some-sent _ _ _ _ _ _ _ _ _ (c.loop.invariant.goes a told))

pub returns-in_err-message-clause-refused : goal.returns-in_err-message-clause-refused
returns-in_err-message-clause-refused g c a fault told e =
    all-sent _ _ _ _ _ _ _ _ _ (c.loop.invariant.goes a told) (Some fault)
    (λ rest left. c.in_err-message.ensures.refused rest fault left
    (ap (λ f. Err f) (same-fault c.from_residual.result c.in_err-message.field-0.0 (Input fault) c.from_residual.ensures.1 e)))

pub returns-in_default-clause-step : goal.returns-in_default-clause-step
returns-in_default-clause-step g c a told =
    message-none _ _ _ _ _ _ _ _ _ (c.loop.invariant.goes a told) c.message.new.self (told_ahead (g.R.Reader.left c.message.new.source) (g.C.Calendar.coming c.message.new.clock))
    c.in_ok-message.field-0 c.in_ok-message.ensures.next c.in_default.is

pub returns-in_err-unkept-clause-cut : goal.returns-in_err-unkept-clause-cut
returns-in_err-unkept-clause-cut g c a told =
    on-err c.from_residual-in_err-unkept.result _
    (message-cut _ _ _ _ _ _ _ _ _ (c.loop.invariant.goes a told) c.message.new.self (told_ahead (g.R.Reader.left c.message.new.source) (g.C.Calendar.coming c.message.new.clock))
    c.in_ok-message.field-0 c.in_ok-message.ensures.next c.in-Some.message c.in-Some.is (link_value g.P.Writer.written g.P.Writer.inward g.P.Writer.failures c.deliver.new.link)
    c.in_err-unkept.ensures.cut)

pub returns-in_err-unkept-clause-unanswered : goal.returns-in_err-unkept-clause-unanswered
returns-in_err-unkept-clause-unanswered g c a told e =
    message-failed _ _ _ _ _ _ _ _ _ (c.loop.invariant.goes a told) c.message.new.self (told_ahead (g.R.Reader.left c.message.new.source) (g.C.Calendar.coming c.message.new.clock))
    c.in_ok-message.field-0 c.in_ok-message.ensures.next c.in-Some.message c.in-Some.is (link_value g.P.Writer.written g.P.Writer.inward g.P.Writer.failures c.deliver.new.link)
    (c.in_err-unkept.ensures.unanswered
    (ap (λ f. Err f) (same-fault c.from_residual-in_err-unkept.result c.in_err-unkept.field-0.0 BadAnswer c.from_residual-in_err-unkept.ensures.1 e)))

pub returns-in-Refused-clause-step : goal.returns-in-Refused-clause-step
returns-in-Refused-clause-step g c a told =
    message-refused _ _ _ _ _ _ _ _ _ (c.loop.invariant.goes a told) c.message.new.self (told_ahead (g.R.Reader.left c.message.new.source) (g.C.Calendar.coming c.message.new.clock))
    c.in_ok-message.field-0 c.in_ok-message.ensures.next c.in-Some.message c.in-Some.is (link_value g.P.Writer.written g.P.Writer.inward g.P.Writer.failures c.deliver.new.link) c.in-Refused.line
    (subst (IsDelivered c.in-Some.message.bytes (link_value g.P.Writer.written g.P.Writer.inward g.P.Writer.failures c.loop.link)
    (link_value g.P.Writer.written g.P.Writer.inward g.P.Writer.failures c.deliver.new.link)) c.in-Refused.is c.in_ok-unkept.ensures.said)

pub returns-in_err-put_back-in-Lost-clause-cut : goal.returns-in_err-put_back-in-Lost-clause-cut
returns-in_err-put_back-in-Lost-clause-cut g c a told =
    on-err c.from_residual-in_err-put_back-in-Lost.result _
    (message-cut _ _ _ _ _ _ _ _ _ (c.loop.invariant.goes a told) c.message.new.self (told_ahead (g.R.Reader.left c.message.new.source) (g.C.Calendar.coming c.message.new.clock))
    c.in_ok-message.field-0 c.in_ok-message.ensures.next c.in-Some.message c.in-Some.is (link_value g.P.Writer.written g.P.Writer.inward g.P.Writer.failures c.deliver.new.link)
    (subst (IsDelivered c.in-Some.message.bytes (link_value g.P.Writer.written g.P.Writer.inward g.P.Writer.failures c.loop.link)
    (link_value g.P.Writer.written g.P.Writer.inward g.P.Writer.failures c.deliver.new.link)) c.in-Lost.is c.in_ok-unkept.ensures.said).0)

pub returns-in-Lost-clause-step : goal.returns-in-Lost-clause-step
returns-in-Lost-clause-step g c a told =
    message-kept _ _ _ _ _ _ _ _ _ (c.loop.invariant.goes a told) c.message.new.self (told_ahead (g.R.Reader.left c.message.new.source) (g.C.Calendar.coming c.message.new.clock))
    c.in_ok-message.field-0 c.in_ok-message.ensures.next c.in-Some.message c.in-Some.is (link_value g.P.Writer.written g.P.Writer.inward g.P.Writer.failures c.deliver.new.link)
    c.put_back.new.self c.in_ok-put_back-in-Lost.ensures
    (subst (IsDelivered c.in-Some.message.bytes (link_value g.P.Writer.written g.P.Writer.inward g.P.Writer.failures c.loop.link)
    (link_value g.P.Writer.written g.P.Writer.inward g.P.Writer.failures c.deliver.new.link)) c.in-Lost.is c.in_ok-unkept.ensures.said)

pub returns-clause-cut : goal.returns-clause-cut
returns-clause-cut g c a told = some-sent _ _ _ _ _ _ _ _ _ (c.loop.invariant.goes a told)

pub returns-clause-endless : goal.returns-clause-endless
returns-clause-endless g c a told e =
    inr (many-sent _ _ _ _ _ _ _ _ _ (c.loop.invariant.goes a told) most (omega (arith, c.loop-test.false, c.loop.auto.counter-end)))

pub loop-preserved : goal.loop-preserved
loop-preserved g c = record {
  goes = λ a told.
      let value = link_value g.P.Writer.written g.P.Writer.inward g.P.Writer.failures in
      let left = told_ahead (g.R.Reader.left c.message.new.source) (g.C.Calendar.coming c.message.new.clock) in
      let q = c.message.new.self in
      subst
      (λ place. SoFar (targeted c.args.target.now) c.args.self.now a (value c.args.link.now)
      (record { place = place; course = q.course; kept = q.kept; cutter = q.cutter; ends = q.ends }) left (value c.deliver.new.link) true (c.loop.counter + 1))
      (sym (c.after-self.ensures ∙ ap (led q.place) c.said.ensures))
      (delivered _ _ _ _ _ _ _ _ _ (c.loop.invariant.goes a told) q left c.in_ok-message.field-0 c.in_ok-message.ensures.next c.in-Some.message c.in-Some.is (value c.deliver.new.link)
      c.in_ok-unkept.field-0 c.in_ok-unkept.ensures.said c.in-Accepted.unkept c.in-Accepted.is);
  later = omega (arith, c.loop.invariant.later, c.in_ok-message.ensures.later);
  steady = c.in_ok-message.ensures.steady.0 ∙ c.loop.invariant.steady;
  calm = c.in_ok-message.ensures.steady.1 ∙ c.loop.invariant.calm;
}

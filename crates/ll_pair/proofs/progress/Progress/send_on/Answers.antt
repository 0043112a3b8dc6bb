-- Each message that is accepted adds to those that were sent.
use Rattle.std.proofs.Common.{◌∙◌, ◌+◌, true, false, arith, Err, ap, sym, subst}
use Rattle.ll_announce.specs.Places.{led}
use Rattle.ll_push.specs.Exchanges.{link_value}
use Rattle.ll_push.specs.declared.fault.PushFault.TheVariants.{BadAnswer}
use Rattle.ll_push.proofs.ExchangeLemmas.{same-fault}
use Rattle.ll_pair.specs.declared.coming.First.TheVariants as first
use Rattle.ll_pair.proofs.SentLemmas.{SoFar, at-end, at-left, most-sent, none-sent, one-failed, one-lost, one-more, one-refused}
use Rattle.ll_pair.proofs.progress.Progress.send_on.Goals as goal

pub loop-init : goal.loop-init
loop-init g c messages told = none-sent _ _ _ _ told

pub returns-in-End-clause-step : goal.returns-in-End-clause-step
returns-in-End-clause-step g c messages told =
    at-end _ _ _ _ _ _ _ _ (c.loop.invariant messages told) _ c.in_ok-message.ensures.kept c.in_ok-message.field-0 c.in_ok-message.ensures.first c.in-End.is

pub returns-in-Left-clause-step : goal.returns-in-Left-clause-step
returns-in-Left-clause-step g c messages told =
    at-left _ _ _ _ _ _ _ _ (c.loop.invariant messages told) _ c.in_ok-message.ensures.kept c.in_ok-message.field-0 c.in_ok-message.ensures.first

pub returns-in_err-unkept-clause-unanswered : goal.returns-in_err-unkept-clause-unanswered
returns-in_err-unkept-clause-unanswered g c messages told e =
    one-failed _ _ _ _ _ _ _ _ (c.loop.invariant messages told) _ c.in_ok-message.ensures.kept c.in_ok-message.field-0 c.in_ok-message.ensures.first c.message-message.result.now
    (c.in-Message.is ∙ ap (λ m. first.Message m) (sym c.message-message.ensures)) (link_value g.P.Writer.written g.P.Writer.inward g.P.Writer.failures c.deliver.new.link)
    (c.in_err-unkept.ensures.unanswered
    (ap (λ f. Err f) (same-fault c.from_residual-in_err-unkept.result c.in_err-unkept.field-0.0 BadAnswer c.from_residual-in_err-unkept.ensures.1 e)))

pub returns-in-Refused-clause-step : goal.returns-in-Refused-clause-step
returns-in-Refused-clause-step g c messages told =
    one-refused _ _ _ _ _ _ _ _ (c.loop.invariant messages told) _ c.in_ok-message.ensures.kept c.in_ok-message.field-0 c.in_ok-message.ensures.first c.message-message.result.now
    (c.in-Message.is ∙ ap (λ m. first.Message m) (sym c.message-message.ensures)) (link_value g.P.Writer.written g.P.Writer.inward g.P.Writer.failures c.deliver.new.link)
    c.in_ok-unkept.field-0 c.in_ok-unkept.ensures.said c.in-Refused.line c.in-Refused.is

pub returns-in-Lost-clause-step : goal.returns-in-Lost-clause-step
returns-in-Lost-clause-step g c messages told =
    one-lost _ _ _ _ _ _ _ _ (c.loop.invariant messages told) _ c.in_ok-message.ensures.kept c.in_ok-message.field-0 c.in_ok-message.ensures.first c.message-message.result.now
    (c.in-Message.is ∙ ap (λ m. first.Message m) (sym c.message-message.ensures)) (link_value g.P.Writer.written g.P.Writer.inward g.P.Writer.failures c.deliver.new.link)
    c.in_ok-unkept.field-0 c.in_ok-unkept.ensures.said c.in-Lost.is

pub loop-preserved : goal.loop-preserved
loop-preserved g c messages told =
    let value = link_value g.P.Writer.written g.P.Writer.inward g.P.Writer.failures in
    subst
    (λ place. SoFar c.args.self.now messages (value c.args.link.now) (record { place = place; tried = false }) (g.M.Coming.coming c.let_go.new.self) (value c.deliver.new.link) true
    (c.loop.counter + 1)) (sym (c.after-self.ensures ∙ ap (led c.loop.self.place) c.said.ensures))
    (one-more _ _ _ _ _ _ _ _ (c.loop.invariant messages told) _ c.in_ok-message.ensures.kept c.in_ok-message.field-0 c.in_ok-message.ensures.first c.message-message.result.now
    (c.in-Message.is ∙ ap (λ m. first.Message m) (sym c.message-message.ensures)) (value c.deliver.new.link) c.in_ok-unkept.field-0 c.in_ok-unkept.ensures.said c.in-Accepted.unkept
    c.in-Accepted.is _ c.let_go.ensures)

pub returns-clause-endless : goal.returns-clause-endless
returns-clause-endless g c messages told e = most-sent _ _ _ _ _ _ _ _ (c.loop.invariant messages told) (omega (arith, c.loop-test.false, c.loop.auto.counter-end))

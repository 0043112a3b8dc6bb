-- A connection was lost before the question was answered, or the question is refused, or publishing goes on.
use Rattle.std.proofs.Common.{◌∙◌, Err, ap, sym, subst}
use Rattle.ll_push.specs.Connecting.{IsPlacedSo}
use Rattle.ll_push.specs.Exchanges.{link_value}
use Rattle.ll_push.specs.Meaning.{targeted}
use Rattle.ll_push.specs.Next.{IsOwn}
use Rattle.ll_push.specs.Publishing.{told_ahead}
use Rattle.ll_push.specs.declared.fault.PushFault.TheVariants.{BadAnswer, Endless}
use Rattle.ll_push.proofs.ConnectionLemmas.{asked-lost, asked-refused, broken-so, endless-so, moved-away, unasked-so, went-so}
use Rattle.ll_push.proofs.ExchangeLemmas.{own-fault, same-fault}
use Rattle.ll_push.proofs.connections.Publisher.publish_on.Goals as goal

pub returns-in_err-standing-clause-broke : goal.returns-in_err-standing-clause-broke
returns-in_err-standing-clause-broke g c a fault told e of =
    let value = link_value g.P.Writer.written g.P.Writer.inward g.P.Writer.failures in
    unasked-so (targeted c.args.target.now) c.args.self.now a (value c.args.link.now) (value c.ask.new.link) fault of
    (own-fault c.from_residual.result c.in_err-standing.field-0.0 fault IsOwn c.from_residual.ensures.1 e c.in_err-standing.ensures.own)
    (λ is. c.in_err-standing.ensures.unanswered
    (ap (λ f. Err f) (same-fault c.from_residual.result c.in_err-standing.field-0.0 BadAnswer c.from_residual.ensures.1 (e ∙ ap (λ f. Err f) is))))

pub returns-in-Refused-clause-went : goal.returns-in-Refused-clause-went
returns-in-Refused-clause-went g c a told =
    let value = link_value g.P.Writer.written g.P.Writer.inward g.P.Writer.failures in
    asked-refused (targeted c.args.target.now) c.args.self.now a (value c.args.link.now) (value c.ask.new.link) c.in_ok-standing.field-0 c.in_ok-standing.ensures.asked
    c.in-Refused.line c.in-Refused.is _ _

pub returns-in-Lost-clause-went : goal.returns-in-Lost-clause-went
returns-in-Lost-clause-went g c a told =
    let value = link_value g.P.Writer.written g.P.Writer.inward g.P.Writer.failures in
    asked-lost (targeted c.args.target.now) c.args.self.now a (value c.args.link.now) (value c.ask.new.link) c.in_ok-standing.field-0 c.in_ok-standing.ensures.asked
    c.in-Lost.is _ told

pub returns-in_err-place-clause-broke : goal.returns-in_err-place-clause-broke
returns-in_err-place-clause-broke g c a fault told e of =
    let value = link_value g.P.Writer.written g.P.Writer.inward g.P.Writer.failures in
    moved-away (targeted c.args.target.now) c.args.self.now a (value c.args.link.now) (value c.ask.new.link) c.in_ok-standing.field-0 c.in_ok-standing.ensures.asked
    c.in-Standing.standing c.in-Standing.is c.in_err-place.field-0.0 c.in_err-place.ensures fault
    (same-fault c.from_residual-in_err-place.result c.in_err-place.field-0.0 fault c.from_residual-in_err-place.ensures.1 e)

pub returns-in_err-step-clause-broke : goal.returns-in_err-step-clause-broke
returns-in_err-step-clause-broke g c a fault told e of =
    let value = link_value g.P.Writer.written g.P.Writer.inward g.P.Writer.failures in
    let same = same-fault c.from_residual-in_err-step.result c.in_err-step.field-0.0 fault c.from_residual-in_err-step.ensures.1 e in
    broken-so (targeted c.args.target.now) c.args.self.now a (value c.args.link.now) (value c.ask.new.link) c.in_ok-standing.field-0 c.in_ok-standing.ensures.asked
    c.in-Standing.standing c.in-Standing.is c.in-Some.publication
    (subst (IsPlacedSo (targeted c.args.target.now) c.args.self.now c.in-Standing.standing) (sym c.self.view_is ∙ c.in-Some.is) c.in_ok-place.ensures) (value c.publish.new.link) fault of
    (λ is. c.in_err-step.ensures.own.1 (same ∙ is))
    (λ why is. c.in_err-step.ensures.refused a why told (ap (λ f. Err f) (same ∙ is)))
    (λ is. c.in_err-step.ensures.unanswered a told (ap (λ f. Err f) (same ∙ is)))

pub returns-in_err-step-clause-endless : goal.returns-in_err-step-clause-endless
returns-in_err-step-clause-endless g c a told e =
    let value = link_value g.P.Writer.written g.P.Writer.inward g.P.Writer.failures in
    endless-so (targeted c.args.target.now) c.args.self.now a (value c.args.link.now) (value c.ask.new.link) c.in_ok-standing.field-0 c.in_ok-standing.ensures.asked
    c.in-Standing.standing c.in-Standing.is c.in-Some.publication
    (subst (IsPlacedSo (targeted c.args.target.now) c.args.self.now c.in-Standing.standing) (sym c.self.view_is ∙ c.in-Some.is) c.in_ok-place.ensures) (value c.publish.new.link) _ _
    (c.in_err-step.ensures.endless a told
    (ap (λ f. Err f) (same-fault c.from_residual-in_err-step.result c.in_err-step.field-0.0 Endless c.from_residual-in_err-step.ensures.1 e)))

pub returns-clause-went : goal.returns-clause-went
returns-clause-went g c a told =
    let value = link_value g.P.Writer.written g.P.Writer.inward g.P.Writer.failures in
    went-so (targeted c.args.target.now) c.args.self.now a (value c.args.link.now) (value c.ask.new.link) c.in_ok-standing.field-0 c.in_ok-standing.ensures.asked
    c.in-Standing.standing c.in-Standing.is c.in-Some.publication
    (subst (IsPlacedSo (targeted c.args.target.now) c.args.self.now c.in-Standing.standing) (sym c.self.view_is ∙ c.in-Some.is) c.in_ok-place.ensures) (value c.publish.new.link) c.publish.new.self _
    c.in_ok-step.step (c.in_ok-step.ensures.step a told)

-- A connection was lost before the question was answered, or the question is refused, or the messages go on.
use Rattle.std.proofs.Common.{◌∙◌, Err, ap, refl}
use Rattle.ll_announce.specs.Meaning.{named}
use Rattle.ll_push.specs.Exchanges.{link_value}
use Rattle.ll_push.specs.Next.{IsOwn}
use Rattle.ll_push.specs.declared.fault.PushFault.TheVariants.{BadAnswer, Endless}
use Rattle.ll_push.proofs.ExchangeLemmas.{own-fault, same-fault}
use Rattle.ll_pair.proofs.WentLemmas.{asked-lost, asked-refused, broken-so, endless-so, moved, of-err, unasked-so, unresumed, went-so}
use Rattle.ll_pair.proofs.progress.Progress.carry_on.Goals as goal

pub returns-in_err-standing-clause-broke : goal.returns-in_err-standing-clause-broke
returns-in_err-standing-clause-broke g c messages fault told e of =
    let value = link_value g.P.Writer.written g.P.Writer.inward g.P.Writer.failures in
    unasked-so (named c.args.names.now) c.args.self.now messages (value c.args.link.now) (value c.ask.new.link) fault of
    (own-fault c.from_residual.result c.in_err-standing.field-0.0 fault IsOwn c.from_residual.ensures.1 e c.in_err-standing.ensures.own)
    (λ is. c.in_err-standing.ensures.unanswered
    (ap (λ f. Err f) (same-fault c.from_residual.result c.in_err-standing.field-0.0 BadAnswer c.from_residual.ensures.1 (e ∙ ap (λ f. Err f) is))))

pub returns-in-Refused-clause-went : goal.returns-in-Refused-clause-went
returns-in-Refused-clause-went g c messages told =
    let value = link_value g.P.Writer.written g.P.Writer.inward g.P.Writer.failures in
    asked-refused (named c.args.names.now) c.args.self.now messages (value c.args.link.now) (value c.ask.new.link) c.in_ok-standing.field-0 c.in_ok-standing.ensures.asked _ told
    c.in-Refused.line c.in-Refused.is

pub returns-in-Lost-clause-went : goal.returns-in-Lost-clause-went
returns-in-Lost-clause-went g c messages told =
    let value = link_value g.P.Writer.written g.P.Writer.inward g.P.Writer.failures in
    asked-lost (named c.args.names.now) c.args.self.now messages (value c.args.link.now) (value c.ask.new.link) c.in_ok-standing.field-0 c.in_ok-standing.ensures.asked _ told c.in-Lost.is

pub returns-in-Elsewhere-clause-broke : goal.returns-in-Elsewhere-clause-broke
returns-in-Elsewhere-clause-broke g c messages fault told e of =
    let value = link_value g.P.Writer.written g.P.Writer.inward g.P.Writer.failures in
    moved (named c.args.names.now) c.args.self.now messages (value c.args.link.now) (value c.ask.new.link) c.in_ok-standing.field-0 c.in_ok-standing.ensures.asked _ told
    c.in-Standing.standing c.in-Standing.is c.resume.new.self _ c.in_ok-resume.field-0 (c.in_ok-resume.ensures.resumed messages told) c.in-Elsewhere.is fault (of-err _ _ fault refl e)

pub returns-in-Left-clause-went : goal.returns-in-Left-clause-went
returns-in-Left-clause-went g c messages told =
    let value = link_value g.P.Writer.written g.P.Writer.inward g.P.Writer.failures in
    unresumed (named c.args.names.now) c.args.self.now messages (value c.args.link.now) (value c.ask.new.link) c.in_ok-standing.field-0 c.in_ok-standing.ensures.asked _ told
    c.in-Standing.standing c.in-Standing.is c.resume.new.self _ c.in_ok-resume.field-0 (c.in_ok-resume.ensures.resumed messages told) c.in-Left.is

pub returns-in_err-step-clause-broke : goal.returns-in_err-step-clause-broke
returns-in_err-step-clause-broke g c messages fault told e of =
    let value = link_value g.P.Writer.written g.P.Writer.inward g.P.Writer.failures in
    let same = same-fault c.from_residual-in_err-step.result c.in_err-step.field-0.0 fault c.from_residual-in_err-step.ensures.1 e in
    broken-so (named c.args.names.now) c.args.self.now messages (value c.args.link.now) (value c.ask.new.link) c.in_ok-standing.field-0 c.in_ok-standing.ensures.asked _ told
    c.in-Standing.standing c.in-Standing.is c.resume.new.self _ c.in_ok-resume.field-0 (c.in_ok-resume.ensures.resumed messages told) c.in-On.is (value c.send_on.new.link) fault of
    (λ is. c.in_err-step.ensures.own.1 (same ∙ is)) (λ rest left is. c.in_err-step.ensures.unanswered rest left (ap (λ f. Err f) (same ∙ is)))

pub returns-in_err-step-clause-endless : goal.returns-in_err-step-clause-endless
returns-in_err-step-clause-endless g c messages told e =
    let value = link_value g.P.Writer.written g.P.Writer.inward g.P.Writer.failures in
    endless-so (named c.args.names.now) c.args.self.now messages (value c.args.link.now) (value c.ask.new.link) c.in_ok-standing.field-0 c.in_ok-standing.ensures.asked _ told
    c.in-Standing.standing c.in-Standing.is c.resume.new.self _ c.in_ok-resume.field-0 (c.in_ok-resume.ensures.resumed messages told) c.in-On.is (value c.send_on.new.link)
    (λ rest left. c.in_err-step.ensures.endless rest left
    (ap (λ f. Err f) (same-fault c.from_residual-in_err-step.result c.in_err-step.field-0.0 Endless c.from_residual-in_err-step.ensures.1 e)))

pub returns-clause-went : goal.returns-clause-went
returns-clause-went g c messages told =
    let value = link_value g.P.Writer.written g.P.Writer.inward g.P.Writer.failures in
    went-so (named c.args.names.now) c.args.self.now messages (value c.args.link.now) (value c.ask.new.link) c.in_ok-standing.field-0 c.in_ok-standing.ensures.asked _ told
    c.in-Standing.standing c.in-Standing.is c.resume.new.self _ c.in_ok-resume.field-0 (c.in_ok-resume.ensures.resumed messages told) c.in-On.is (value c.send_on.new.link)
    c.send_on.new.self _ c.in_ok-step.step (λ rest left. c.in_ok-step.ensures.step rest left)

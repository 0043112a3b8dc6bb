-- What was sent is a prefix of the question.
use Rattle.std.proofs.Common.{◌∙◌, subst}
use Rattle.ll_device.specs.Written.{AppendsPrefix}
use Rattle.ll_push.proofs.ExchangeLemmas.{on-err}
use Rattle.ll_push.proofs.connection.ask.Goals as goal

pub returns-in_err-standing-clause-cut : goal.returns-in_err-standing-clause-cut
returns-in_err-standing-clause-cut g c =
    on-err c.from_residual-in_err-standing.result _
    (subst (AppendsPrefix (g.P.Writer.written c.args.link.now) (g.P.Writer.written c.exchange.new.link)) (c.deref.ensures.value ∙ c.in_ok-text.ensures) c.in_err-standing.ensures.cut)

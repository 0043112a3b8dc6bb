-- A message that was answered was sent whole.
use Rattle.std.proofs.Common.{◌∙◌, ap}
use Rattle.ll_push.specs.Exchanges.{link_value}
use Rattle.ll_push.specs.declared.connection.Sent.TheVariants.{Answered}
use Rattle.ll_push.proofs.StepLemmas.{prefix-answered}
use Rattle.ll_push.proofs.connection.deliver.Goals as goal

pub returns-in-Answered-Standing-clause-cut : goal.returns-in-Answered-Standing-clause-cut
returns-in-Answered-Standing-clause-cut g c =
    let value = link_value g.P.Writer.written g.P.Writer.inward g.P.Writer.failures in
    prefix-answered (value c.args.link.now) (value c.exchange.new.link) c.bytes.result.now c.args.message.now.bytes c.in_ok-unkept.field-0 _ c.bytes.ensures
    (c.in-Answered-Standing.is ∙ ap (λ a. Answered a) c.in-Answered-Standing.field-0-is) c.in_ok-unkept.ensures.sent

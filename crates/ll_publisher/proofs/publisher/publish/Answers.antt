-- The channel of a line's name stands at its place; a question that the hub doesn't answer ends the connection for that reason.
use Rattle.std.proofs.Common.{◌≡◌, ◌∙◌, Some, ap, sym}
use Rattle.ll_publish.specs.Meaning.{meant}
use Rattle.ll_publisher.proofs.AnswerLemmas.{named-at}
use Rattle.ll_publisher.specs.Channels.{channel_in}
use Rattle.ll_service.proofs.FaultLemmas.{own-again}
use Rattle.ll_settings.specs.Channels.{channel_of_name}
use Rattle.ll_publisher.proofs.publisher.publish.Goals as goal

pub publish_bytes-requires : goal.publish_bytes-requires
publish_bytes-requires g c =
    let hub = c.args.service.now.hub.now in
    let known : channel_of_name hub 0 c.in-Item.field-0.now ≡ Some (c.args.channel, c.args.settings.now) = sym (ap (λ line. channel_in hub (meant line)) c.in-Item.is) ∙ c.requires.known in
    record { known = named-at hub c.in-Item.field-0.now c.args.channel c.args.settings.now known }

pub returns-in_err-place-in-At-clause-own : goal.returns-in_err-place-in-At-clause-own
returns-in_err-place-in-At-clause-own g c = own-again c.place.result _ c.in_err-place-in-At.field-0.0 c.place.ensures.own c.in_err-place-in-At.was c.from_residual.ensures.1

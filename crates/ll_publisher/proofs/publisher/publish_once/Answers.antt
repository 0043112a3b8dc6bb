-- An item that the hub refuses is refused by its channel, or for memory.
use Rattle.std.proofs.Common.{◌≡◌, Ok, subst}
use Rattle.ll_hub.specs.Calls.{IsPublishFault}
use Rattle.ll_item.specs.Items.{item_in}
use Rattle.ll_publisher.proofs.AnswerLemmas.{answer-refused}
use Rattle.ll_publisher.proofs.publisher.publish_once.Goals as goal

pub returns-in_ok-refusal-in-Err-publish-clause-told : goal.returns-in_ok-refusal-in-Err-publish-clause-told
returns-in_ok-refusal-in-Err-publish-clause-told g c =
    let hub = c.args.service.now.hub.now in
    let turn = c.args.turn.now in
    let fault = c.in-Err-publish.fault in
    let read = subst (λ s. item_in s c.args.text.now c.args.payload.now ≡ Ok c.in-Ok.item) c.settings.ensures c.in-Ok.ensures.value in
    let refused = subst (λ place. IsPublishFault hub place c.in-Ok.item c.args.pass.now c.publish.new.pass fault) c.channel.ensures c.in-Err-publish.ensures.refused in
    answer-refused turn.settings turn.place c.args.text.now c.args.payload.now hub c.in-Ok.item c.args.pass.now c.publish.new.pass c.requires.known read fault
    c.in_ok-refusal-in-Err-publish.field-0 c.in_ok-refusal-in-Err-publish.ensures.answer refused

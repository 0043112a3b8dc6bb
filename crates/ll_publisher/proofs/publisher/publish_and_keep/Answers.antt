-- The turn is that of the line's channel.
use Rattle.std.proofs.Common.{◌≡◌, ◌∙◌, Err, Ok, Some}
use Rattle.ll_publish.specs.Refusals.{item_refusal}
use Rattle.ll_publisher.proofs.KeptLemmas.{settled_reply}
use Rattle.ll_publisher.proofs.publisher.publish_and_keep.Goals as goal

pub returns-clause-right : goal.returns-clause-right
returns-clause-right g c = λ name known.
    let turn = c.in_ok-turn.turn in
    let same : Some (c.args.channel, c.args.settings.now) ≡ Some (turn.place, turn.settings) = cc (c.in_ok-turn.ensures.place, c.in_ok-turn.ensures.settings) in
    settled_reply _ c.args.pass.now c.publish_item.new.pass name _ _ turn.place turn.settings c.in_ok-answer.answer _ c.requires.small (known ∙ same)
    (λ fault e. let refused : Ok c.in_ok-answer.answer ≡ Ok (Err (item_refusal fault)) = c.in_ok-answer.ensures.refused fault e in cc) c.in_ok-answer.ensures.told
    c.in_ok-answer.ensures.passed c.settle.ensures.answer

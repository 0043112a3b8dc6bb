-- A line has the reply of its entry.
use Rattle.std.proofs.Common.{ap, ◌∙◌}
use Rattle.ll_check.proofs.ReplyLemmas.{brought-of}
use Rattle.ll_check.specs.Found.{ChainValue}
use Rattle.ll_room.specs.RoomValue.{RoomValue}
use Rattle.ll_check.proofs.replies.reply_to.Goals as goal

pub returns-clause-right : goal.returns-clause-right
returns-clause-right c ch of =
    brought-of c.args.chain.now ch c.args.line.now c.chain.inside.version c.settings.result.now c.chain.inside.replayer c.in_ok-entry.entry c.bring.result of
    (ap (λ (k : ChainValue). k.version) c.chain.view_is)
    (c.settings.ensures ∙ ap (λ (h : RoomValue). h.settings) c.room.ensures ∙ ap (λ (k : ChainValue). k.room.settings) c.chain.view_is)
    (ap (λ (k : ChainValue). k.room) c.chain.view_is) c.in_ok-entry.ensures.value c.bring.ensures.right

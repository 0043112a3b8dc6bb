-- If the record isn't handed out, or the item isn't published again, the connection ends for that reason.
use Rattle.std.proofs.Common.{refl}
use Rattle.ll_publisher.proofs.AnswerLemmas.{answer-earlier, heard-nothing}
use Rattle.ll_service.proofs.SeenLemmas.{seen-then}
use Rattle.ll_service.proofs.FaultLemmas.{own-again}
use Rattle.ll_publisher.proofs.publisher.publish_again.Goals as goal

pub returns-in_err-handed-clause-own : goal.returns-in_err-handed-clause-own
returns-in_err-handed-clause-own g c = own-again c.hand_out.result _ c.in_err-handed.field-0.0 c.hand_out.ensures.own c.in_err-handed.was c.from_residual.ensures.1

pub returns-in_err-second-clause-own : goal.returns-in_err-second-clause-own
returns-in_err-second-clause-own g c = own-again c.publish_once.result _ c.in_err-second.field-0.0 c.publish_once.ensures.own c.in_err-second.was c.from_residual-in_err-second.ensures.1

-- the record was full, so the item is published again for a pass that has only seen more since
pub returns-clause-told : goal.returns-clause-told
returns-clause-told g c before heard told =
    answer-earlier _ _ before c.hand_out.new.pass _ _ _ c.in_ok-second.second
    (seen-then before c.args.pass.now c.hand_out.new.pass (heard-nothing _ _ _ before c.args.pass.now (c.if-not-is_full.ensures.0 refl) heard) c.hand_out.ensures.seen)
    c.in_ok-second.ensures.told

-- The record was full, so the request is made again for a pass that has only seen more since.
use Rattle.std.proofs.Common.{subst}
use Rattle.std.specs.Prelude.{IfErr}
use Rattle.ll_hub.specs.Calls.{HasSeen}
use Rattle.ll_player.specs.Asking.{IsUnmade}
use Rattle.ll_player.proofs.AskLemmas.{asked-again, unmade-again, unmade-seen}
use Rattle.ll_service.proofs.FaultLemmas.{own-again}
use Rattle.ll_service.proofs.SeenLemmas.{seen-then}
use Rattle.ll_player.proofs.TurnLemmas.{on-err}
use Rattle.ll_player.proofs.asking.ask_in.Goals as goal
use Rattle.ll_player.proofs.asking.ask_in.Goals.{After-hand_out}

-- what was seen by the first try and the hand-out
seen : (g : _) (c : After-hand_out g) → HasSeen c.args.pass.now c.hand_out.new.pass
seen g c =
    seen-then c.args.pass.now c.ask_once.new.pass c.hand_out.new.pass
    (unmade-seen (g.C.Clock.shows c.args.service.now.clock.now) c.args.service.now.hub.now c.args.channel c.args.pass.now c.ask_once.new.pass _
    (subst (λ t. IfErr t (IsUnmade (g.C.Clock.shows c.args.service.now.clock.now) c.args.service.now.hub.now c.args.channel c.args.pass.now c.ask_once.new.pass))
    c.in-Err-RecordFull.is c.in_ok-told.ensures.unmade))
    c.hand_out.ensures.seen

pub returns-in_ok-told-in-Err-RecordFull-clause-told : goal.returns-in_ok-told-in-Err-RecordFull-clause-told
returns-in_ok-told-in-Err-RecordFull-clause-told g c same =
    asked-again _ _ _ _ _ c.args.pass.now c.hand_out.new.pass _ c.in_ok-told-in-Err-RecordFull.told same (seen g (goal.at.returns-in_ok-told-in-Err-RecordFull-clause-told g c).After-hand_out)
    c.in_ok-told-in-Err-RecordFull.ensures.told

pub returns-in_ok-told-in-Err-RecordFull-clause-unmade : goal.returns-in_ok-told-in-Err-RecordFull-clause-unmade
returns-in_ok-told-in-Err-RecordFull-clause-unmade g c =
    unmade-again _ _ _ c.args.pass.now c.hand_out.new.pass _ c.in_ok-told-in-Err-RecordFull.told (seen g (goal.at.returns-in_ok-told-in-Err-RecordFull-clause-unmade g c).After-hand_out)
    c.in_ok-told-in-Err-RecordFull.ensures.unmade

pub returns-in_err-told-in-Err-RecordFull-clause-own : goal.returns-in_err-told-in-Err-RecordFull-clause-own
returns-in_err-told-in-Err-RecordFull-clause-own g c =
    own-again c.ask_once-in-Err-RecordFull.result _ c.in_err-told-in-Err-RecordFull.field-0.0 c.ask_once-in-Err-RecordFull.ensures.own c.in_err-told-in-Err-RecordFull.was
    c.from_residual-in_err-told-in-Err-RecordFull.ensures.1

pub returns-in_err-told-in-Err-RecordFull-clause-unasked : goal.returns-in_err-told-in-Err-RecordFull-clause-unasked
returns-in_err-told-in-Err-RecordFull-clause-unasked g c =
    on-err _
    (seen-then _ _ _ (seen g (goal.at.returns-in_err-told-in-Err-RecordFull-clause-unasked g c).After-hand_out) c.in_err-told-in-Err-RecordFull.ensures.unasked)

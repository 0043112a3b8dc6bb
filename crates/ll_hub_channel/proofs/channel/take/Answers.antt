use Rattle.std.proofs.Common.{◌∙◌, ap, Some}
use Rattle.ll_room.specs.RoomValue.{tickets}
use Rattle.ll_hub_channel.proofs.ParkedLemmas.{none-left, none-taken, one-left, one-taken}
use Rattle.ll_hub_channel.proofs.channel.take.Goals as goal

pub returns-in_err-place-clause-value : goal.returns-in_err-place-clause-value
returns-in_err-place-clause-value c =
    none-taken c.args.ticket c.args.recorder.now.room.channel (tickets c.args.recorder.now.room) _ c.from_residual.result
    c.in_err-place.ensures c.requires.each c.from_residual.ensures

pub returns-in_err-place-clause-left : goal.returns-in_err-place-clause-left
returns-in_err-place-clause-left c =
    none-left c.args.ticket c.args.recorder.now.room.channel (tickets c.args.recorder.now.room) _
    c.in_err-place.ensures c.requires.each

pub returns-clause-value : goal.returns-clause-value
returns-clause-value c =
    ap Some c.into_parked.ensures ∙ one-taken c.args.ticket c.args.recorder.now.room.channel c.in_ok-place.place (tickets c.args.recorder.now.room) _ c.in-Some.one
    c.in_ok-place.ensures c.requires.each c.in-Some.ensures.value

pub returns-clause-left : goal.returns-clause-left
returns-clause-left c =
    one-left c.args.ticket c.args.recorder.now.room.channel c.in_ok-place.place (tickets c.args.recorder.now.room) _ _ c.requires.distinct
    c.in_ok-place.ensures c.requires.each c.in-Some.ensures.items

use Rattle.std.specs.Prelude.{◌≡◌, length}
use Rattle.ll_room.specs.RoomValue.{AreDistinct, tickets}
use Rattle.ll_hub_channel.specs.Channel.{parked_for}
use Rattle.ll_hub_channel.proofs.channel.close_each.Given as goal

abbrev pub invariant-loop-one : goal.invariant-loop-one
invariant-loop-one l = record {
  each : l.left.items ≡ parked_for l.recorder.room.channel (tickets l.recorder.room);
  distinct : AreDistinct (tickets l.recorder.room);
}

abbrev pub decreases-loop-one : goal.decreases-loop-one
decreases-loop-one l = length l.left.items

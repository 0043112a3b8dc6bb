-- With each round fewer requests wait.
use Rattle.std.proofs.Common.{length}
use Rattle.ll_script_rooms.proofs.rooms.Rooms.finish.Given as goal

abbrev pub decreases-loop-wait : goal.decreases-loop-wait
decreases-loop-wait l = length l.self.waits

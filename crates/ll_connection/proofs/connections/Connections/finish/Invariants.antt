-- With each round fewer connections are left.
use Rattle.std.proofs.Common.{length}
use Rattle.ll_connection.proofs.connections.Connections.finish.Given as goal

abbrev pub decreases-loop-slot : goal.decreases-loop-slot
decreases-loop-slot l = length l.sessions.entries

-- Nothing is written.
use Rattle.std.proofs.Common.{◌≡◌}
use Rattle.ll_socket.proofs.connector.skip_line.Given as goal

abbrev pub invariant-loop : goal.invariant-loop
invariant-loop g l = g.L.Writer.written l.link ≡ g.L.Writer.written l.fn.link

-- Nothing was written.
use Rattle.std.specs.Io.KnownBytes.{Keeps}
use Rattle.ll_socket.proofs.stream.write_both.Given as goal

abbrev pub invariant-loop : goal.invariant-loop
invariant-loop g l = Keeps (g.S.Write.contents l.fn.stream) (g.S.Write.contents l.stream)

-- The buffer keeps its length, and nothing was read.
use Rattle.std.proofs.Common.{◌≡◌, length}
use Rattle.std.specs.Io.KnownBytes.{Keeps}
use Rattle.ll_socket.proofs.stream.read.Given as goal

abbrev pub invariant-loop : goal.invariant-loop
invariant-loop g l = record {
  room : length l.buf ≡ length l.fn.buf;
  kept : Keeps (g.S.Read.remaining l.fn.stream) (g.S.Read.remaining l.stream);
}

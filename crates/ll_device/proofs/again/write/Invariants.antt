-- Nothing was written.
use Rattle.std.specs.Io.KnownBytes.{Keeps}
use Rattle.ll_device.proofs.again.write.Given as goal

abbrev pub invariant-loop : goal.invariant-loop
invariant-loop g l = Keeps (g.W.Write.contents l.fn.sink) (g.W.Write.contents l.sink)

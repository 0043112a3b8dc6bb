-- Nothing was read.
use Rattle.std.specs.Io.KnownBytes.{Keeps}
use Rattle.ll_device.proofs.again.read.Given as goal

abbrev pub invariant-loop : goal.invariant-loop
invariant-loop g l = Keeps (g.R.Read.remaining l.fn.source) (g.R.Read.remaining l.source)

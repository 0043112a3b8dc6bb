-- A prefix of the text is written, no write has failed, and nothing was read.
use Rattle.std.proofs.Common.{length, ◌-◌, ◌≡◌, ◌≤◌, take}
use Rattle.std.specs.Io.KnownBytes.{Appends}
use Rattle.ll_device.proofs.device.write_all.Given as goal

abbrev pub invariant-loop-taken : goal.invariant-loop-taken
invariant-loop-taken g l = record {
  within : l.taken ≤ length l.text;
  wrote : Appends (g.W.Writer.written l.fn.writer) (g.W.Writer.written l.writer) (take l.taken l.text);
  steady : g.W.Writer.failures l.writer ≡ g.W.Writer.failures l.fn.writer;
  unread : g.W.Writer.inward l.writer ≡ g.W.Writer.inward l.fn.writer;
}

abbrev pub decreases-loop-taken : goal.decreases-loop-taken
decreases-loop-taken g l = length l.text - l.taken

-- The channels before this place have taken the reading.
use Rattle.std.proofs.Common.{◌≡◌}
use Rattle.ll_replay.proofs.RestLemmas.{Told}
use Rattle.ll_replay.proofs.driver.Driver.clocks.Given as goal

abbrev pub invariant-loop-place : goal.invariant-loop-place
invariant-loop-place g l = record {
  goes : Told l.fn.self l.self (g.W.Writer.written l.fn.writer) (g.W.Writer.written l.writer) l.fn.self.declared l.place l.ms;
  lines : l.self.lines ≡ l.fn.self.lines;
  steady : g.W.Writer.failures l.writer ≡ g.W.Writer.failures l.fn.writer;
}

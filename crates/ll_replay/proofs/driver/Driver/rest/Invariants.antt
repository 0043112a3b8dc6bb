-- As many replies as rounds were written.
use Rattle.std.proofs.Common.{◌≡◌}
use Rattle.ll_replay.proofs.RestLemmas.{Goes}
use Rattle.ll_replay.proofs.driver.Driver.rest.Given as goal

abbrev pub invariant-loop : goal.invariant-loop
invariant-loop g l = record {
  goes : Goes l.fn.self l.self (g.W.Writer.written l.fn.writer) (g.W.Writer.written l.writer) l.place l.counter;
  lines : l.self.lines ≡ l.fn.self.lines;
  steady : g.W.Writer.failures l.writer ≡ g.W.Writer.failures l.fn.writer;
}

-- Each piece that was read was fed, and gave no more lines than bytes.
use Rattle.std.proofs.Common.{◌≡◌, ◌≤◌, ◌+◌, ◌*◌, List, ℕ}
use Rattle.std.specs.Io.KnownBytes.{Consumes}
use Rattle.ll_replay.specs.Cuts.{StandsFor}
use Rattle.ll_replay.proofs.stream.read_all.Given as goal

abbrev pub invariant-loop : goal.invariant-loop
invariant-loop g l = record {
  reads : g.R.Reader.reads l.reader ≡ g.R.Reader.reads l.fn.reader + l.counter;
  read : g.R.Reader.failures l.reader ≡ g.R.Reader.failures l.fn.reader;
  write : g.W.Writer.failures l.writer ≡ g.W.Writer.failures l.fn.writer;
  lines : l.stream.driver.lines ≤ 65536 * l.counter;
  stands : (bytes : List ℕ) × StandsFor l.stream.line.items l.stream.driver (g.W.Writer.written l.fn.writer) (g.W.Writer.written l.writer) bytes
      × Consumes (g.R.Reader.left l.fn.reader) (g.R.Reader.left l.reader) bytes;
}

-- The stream stands for the bytes before the piece and those of it so far.
use Rattle.std.proofs.Common.{◌≡◌, ◌≤◌, ◌+◌, ◌++◌, List, ℕ, Option, take}
use Rattle.ll_replay.specs.Cuts.{StandsFor}
use Rattle.ll_replay.proofs.stream.Stream.feed.Given as goal

abbrev pub invariant-loop-b : goal.invariant-loop-b
invariant-loop-b g l = record {
  stands : (bytes : List ℕ) (base : Option (List ℕ))
      → StandsFor l.fn.self.line.items l.fn.self.driver base (g.W.Writer.written l.fn.writer) bytes
      → StandsFor l.self.line.items l.self.driver base (g.W.Writer.written l.writer) (bytes ++ take l.b-index l.piece);
  counted : l.self.driver.lines ≤ l.fn.self.driver.lines + l.b-index;
  steady : g.W.Writer.failures l.writer ≡ g.W.Writer.failures l.fn.writer;
}

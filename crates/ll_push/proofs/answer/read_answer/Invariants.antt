-- What came stands first in the line, and there is room for more. Nothing was written, and no read has failed.
use Rattle.std.proofs.Common.{◌-◌, ◌≡◌, ◌≤◌, length, take}
use Rattle.ll_push.specs.Exchanges.{HasCome}
use Rattle.ll_push.proofs.answer.read_answer.Given as goal

abbrev pub invariant-loop-len : goal.invariant-loop-len
invariant-loop-len g l = record {
  within : l.len ≤ 128;
  long : length l.line ≡ 128;
  come : HasCome (take l.len l.line) (g.P.Writer.inward l.fn.link) (g.P.Writer.inward l.link);
  steady : g.P.Writer.failures l.link ≡ g.P.Writer.failures l.fn.link;
  unwritten : g.P.Writer.written l.link ≡ g.P.Writer.written l.fn.link;
}

abbrev pub decreases-loop-len : goal.decreases-loop-len
decreases-loop-len g l = 128 - l.len

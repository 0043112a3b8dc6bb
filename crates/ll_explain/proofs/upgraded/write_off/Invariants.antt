-- What isn't left was written, and nothing has failed.
use Rattle.std.specs.Prelude.{◌≡◌, length}
use Rattle.ll_explain.specs.Upgrade.{WritesOff}
use Rattle.ll_explain.proofs.upgraded.write_off.Given as goal

abbrev pub invariant-left : goal.invariant-left
invariant-left g l = record {
  written : WritesOff (g.W.Writer.written l.fn.out) (g.W.Writer.written l.out) l.fn.text.items l.text.items;
  steady : g.W.Writer.failures l.out ≡ g.W.Writer.failures l.fn.out;
}

abbrev pub decreases-left : goal.decreases-left
decreases-left g l = length l.text.items

-- The passes saw no more than the history so far, in which each channel was found.
use Rattle.std.proofs.Common.{rules, subst}
use Rattle.ll_hub.specs.Calls.{AreTotals}
use Rattle.ll_hub.proofs.hub.Hub.settle.Goals as goal

pub returns-clause-totals : goal.returns-clause-totals
returns-clause-totals g c = record {
  seen = c.gather-both.new.past;
  history = c.finish-at_home.new.past;
  each = c.gather-both.ensures.seen;
  right = subst (λ hub. AreTotals hub c.gather-both.new.past c.finish-at_home.new.past c.finish-at_home.new.found.items) c.self.view_is (c.finish-at_home.ensures.totals (search rules));
}

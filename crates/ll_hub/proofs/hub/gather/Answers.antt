use Rattle.std.proofs.Common.{◌≡◌, Some, arith, slice_get}
use Rattle.std.proofs.lemmas.Grind.{common_steps}
use mathlib.Core.List.{IsPrefix}
use Rattle.ll_history.proofs.PrefixLemmas.{prefix-trans}
use Rattle.ll_hub.proofs.TotalLemmas.{each-more}
use Rattle.ll_hub.specs.Passes.{PassValue}
use Rattle.ll_hub.proofs.hub.gather.Goals as goal

pub loop-pass-preserved : goal.loop-pass-preserved
loop-pass-preserved g c =
    let i = c.loop-pass.invariant in record {
      parts = grind (arith, common_steps);
      most = c.merge.ensures.most;
      publishes = grind (arith, common_steps);
      asks = grind (arith, common_steps);
      seen = each-more (λ place (pass : PassValue). IsPrefix pass.history c.into_counts.new.past) c.loop-pass.yielded c.in-Some.pass
          (λ place pass at. prefix-trans pass.history c.loop-pass.past c.into_counts.new.past (i.seen place pass at) c.into_counts.ensures.grows)
          c.into_counts.ensures.seen;
    }

use Rattle.std.proofs.Common.{◌≡◌, Some, arith, length, rules, slice_get, sym, subst}
use Rattle.std.proofs.lemmas.Grind.{common_steps}
use Rattle.ll_history.proofs.PrefixLemmas.{prefix-self, prefix-trans}
use Rattle.ll_hub.specs.Calls.{AreTotals}
use Rattle.ll_hub.proofs.TotalLemmas.{totals-more}
use Rattle.ll_hub.proofs.locks.ChannelLocks.finish.Goals as goal

pub loop-channel_lock-preserved : goal.loop-channel_lock-preserved
loop-channel_lock-preserved g c =
    let i = c.loop-channel_lock.invariant in
    let past = c.finish-counts.new.past in
    let grows = c.finish-counts.ensures.grows in
    let place : c.len.result ≡ length c.loop-channel_lock.found.items = omega (arith, c.loop-channel_lock.found.ok.0) in
    record {
      totals = λ home. subst (AreTotals c.args.self c.args.past.now past) (sym c.push_reserved.ensures.items)
          (totals-more c.args.self c.args.past.now c.loop-channel_lock.past past c.loop-channel_lock.found.items c.finish-counts.result.0 c.len.result place grows
          (i.totals (c.finish-counts.ensures.noted home))
          (λ s at. record {
            past = past;
            seen = prefix-trans c.args.past.now c.loop-channel_lock.past past i.grows grows;
            whole = prefix-self past;
            total = c.finish-counts.ensures.total s home (subst (λ hub. slice_get hub c.len.result ≡ Some s) (sym c.self.view_is) at);
          }));
      grows = prefix-trans c.args.past.now c.loop-channel_lock.past past i.grows grows;
      each = search rules;
      room = search rules;
      parts = search rules;
      publishes = grind (arith, common_steps);
      asks = grind (arith, common_steps);
    }

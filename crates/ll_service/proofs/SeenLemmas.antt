-- A pass that has only seen more of the history.
use Rattle.std.proofs.Common.{◌∙◌, ap, refl}
use Rattle.ll_history.proofs.PrefixLemmas.{prefix-self, prefix-trans}
use Rattle.ll_hub.specs.Calls.{HasSeen}
use Rattle.ll_hub.specs.Passes.{PassValue}

pub seen-nothing : (pass : PassValue) → HasSeen pass pass
seen-nothing pass = record { same = refl; grows = prefix-self pass.history }

pub seen-then : (before mid after : PassValue) → HasSeen before mid → HasSeen mid after → HasSeen before after
seen-then before mid after p q = record {
  same = q.same ∙ ap (λ (v : PassValue). record v { history = after.history }) p.same;
  grows = prefix-trans before.history mid.history after.history p.grows q.grows;
}

use Rattle.std.proofs.Common.{◌∙◌, ◌+◌, ◌∷◌, [], ap, length, sym}
use Rattle.std.proofs.lemmas.List.{length-append}
use Rattle.ll_hub.proofs.locks.ChannelLocks.add.Goals as goal

-- one channel more, and one lock more
pub invariant_of-self-2 : goal.invariant_of-self-2
invariant_of-self-2 g c =
    c.push_reserved.ensures.len ∙ ap (λ n. n + 1) (c.new_channel.ensures.len ∙ c.self.invariant)
    ∙ sym (ap length c.in-Ok.ensures.added ∙ length-append c.self.inside.channels (c.args.settings ∷ []))

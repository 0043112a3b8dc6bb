use Rattle.ll_hub_channel.proofs.ToldLemmas.{met-stands}
use Rattle.ll_ledger.proofs.SectionLemmas.{standing}
use Rattle.ll_ledger.proofs.channel.CountedChannel.standing.Goals as goal

pub returns-in-Ok-clause-standing : goal.returns-in-Ok-clause-standing
returns-in-Ok-clause-standing g c =
    let met = c.in-Ok.ensures.met in
    standing c.self.inside.channel c.self.inside.history _ _ _ _ c.standing.result _ _ c.self.invariant.1 c.self.invariant.2 met
    (λ es k. met-stands _ _ _ es _ _ _ met (c.standing.ensures es k)) c.show.ensures.grows c.show.ensures.all

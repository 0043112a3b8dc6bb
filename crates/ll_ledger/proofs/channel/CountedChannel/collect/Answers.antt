use Rattle.std.proofs.Common.{refl, subst, sym}
use Rattle.ll_history.specs.History.{IsAddedTo}
use Rattle.ll_hub_channel.proofs.DeedLemmas.{IsEvent}
use Rattle.ll_ledger.proofs.SectionLemmas.{decided, more-known}
use Rattle.ll_verdict.specs.Events.{Collect}
use Rattle.ll_ledger.proofs.channel.CountedChannel.collect.Goals as goal

pub invariant_of-self : goal.invariant_of-self
invariant_of-self g c =
    let s = c.self.inside.channel.room.settings in
    let known = more-known c.self.inside.channel c.collect.new.self c.self.inside.history c.add.new.self c.draft-draft.result (Collect c.args.entry.ticket) c.self.invariant.1
    c.self.invariant.2 c.collect.ensures.goes_on (c.in-Got.ensures.tried.2.recorded _ c.self.invariant.1.recorded)
    (subst (λ d. IsEvent s d (Collect c.args.entry.ticket)) (sym c.draft-draft.ensures) (refl, λ h. refl)) c.add.ensures.deeds in
    (rw (c.collect.ensures.counts.publishes, c.collect.ensures.counts.asks) c.self.invariant.0, known.0, known.1)

pub returns-in-Got-clause-tried : goal.returns-in-Got-clause-tried
returns-in-Got-clause-tried g c = (
  c.in-Got.ensures.tried.0,
  c.in-Got.ensures.tried.1,
  decided c.self.inside.channel c.collect.new.self c.self.inside.history _ _ c.args.entry _ _ _ c.self.invariant.1 c.self.invariant.2 c.find_home.ensures c.in-Got.ensures.tried.2
      (subst (λ d. IsAddedTo c.self.inside.history d c.args.past.now c.add.new.past) c.draft-draft.ensures c.add.ensures.added),
)

use Rattle.std.proofs.Common.{MatchBool, false, refl, subst, sym, true}
use Rattle.ll_history.specs.History.{IsAddedTo}
use Rattle.ll_history.specs.declared.deed.Deed.TheVariants as deed
use Rattle.ll_hub_channel.proofs.DeedLemmas.{IsEvent}
use Rattle.ll_hub_channel.specs.Section.{IsClosed, IsNotOpen}
use Rattle.ll_ledger.proofs.SectionLemmas.{closed, more-known}
use Rattle.ll_verdict.specs.Events.{Close}
use Rattle.ll_ledger.proofs.channel.CountedChannel.close.Goals as goal
use Rattle.ll_ledger.proofs.channel.CountedChannel.close.Goals.{After-add}

its : (g : _) (c : After-add g) → IsClosed c.self.inside.channel c.close.new.self c.args.known.place c.args.known.settings.now c.args.entry
its g c = c.if-not-close.ensures.closed

pub invariant_of-self-2 : goal.invariant_of-self-2
invariant_of-self-2 g c =
    let s = c.self.inside.channel.room.settings in
    let known = more-known c.self.inside.channel c.close.new.self c.self.inside.history c.add.new.self c.draft-draft.result (Close c.args.entry.ticket) c.self.invariant.1 c.self.invariant.2
    c.close.ensures.goes_on ((its g c).recorded _ c.self.invariant.1.recorded) (subst (λ d. IsEvent s d (Close c.args.entry.ticket)) (sym c.draft-draft.ensures) (refl, λ h. refl))
    c.add.ensures.deeds in
    (rw (c.close.ensures.counts.publishes, c.close.ensures.counts.asks) c.self.invariant.0, known.0, known.1)

pub returns : goal.returns
returns g c = record {
  closed = closed c.self.inside.channel c.close.new.self c.self.inside.history _ _ c.args.entry _ _ c.self.invariant.1 c.self.invariant.2 (its g c)
      (subst (λ d. IsAddedTo c.self.inside.history d c.args.past.now c.add.new.past) c.draft-draft.ensures c.add.ensures.added);
}

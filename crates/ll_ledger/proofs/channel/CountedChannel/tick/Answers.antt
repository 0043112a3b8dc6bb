use Rattle.std.proofs.Common.{refl}
use Rattle.ll_history.specs.declared.deed.Deed.TheVariants as deed
use Rattle.ll_ledger.proofs.SectionLemmas.{more-known, ticked}
use Rattle.ll_verdict.specs.Events.{Clock}
use Rattle.ll_ledger.proofs.channel.CountedChannel.tick.Goals as goal

pub invariant_of-self : goal.invariant_of-self
invariant_of-self g c =
    let known = more-known c.self.inside.channel c.tick.new.self c.self.inside.history c.add_reading.new.history (deed.Clock c.args.ms) (Clock c.args.ms) c.self.invariant.1
    c.self.invariant.2 c.in-Ok.ensures.goes_on (c.in-Ok.ensures.told _ c.self.invariant.1.recorded) (refl, λ h. refl) c.add_reading.ensures.deeds in
    (rw (c.in-Ok.ensures.counts.publishes, c.in-Ok.ensures.counts.asks) c.self.invariant.0, known.0, known.1)

pub returns-in-Ok-clause-ticked : goal.returns-in-Ok-clause-ticked
returns-in-Ok-clause-ticked g c =
    ticked c.self.inside.channel c.self.inside.history _ _ c.args.ms _ _ c.self.invariant.2 c.find_home.ensures c.add_reading.ensures.added

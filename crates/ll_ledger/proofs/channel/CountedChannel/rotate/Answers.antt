use Rattle.std.proofs.Common.{subst}
use Rattle.ll_history.specs.History.{IsAddedTo}
use Rattle.ll_ledger.proofs.SectionLemmas.{out-known, rotated}
use Rattle.ll_ledger.proofs.channel.CountedChannel.rotate.Goals as goal

pub invariant_of-self-2 : goal.invariant_of-self-2
invariant_of-self-2 g c =
    let known = out-known c.self.inside.channel c.rotate.new.self c.self.inside.history c.add.new.self _ c.self.invariant.1 c.self.invariant.2
    c.in-Ok.ensures.emptied c.in-Ok.ensures.recorded c.draft-draft.ensures c.add.ensures.deeds in
    (rw c.in-Ok.ensures.same c.self.invariant.0, known.0, known.1)

pub returns-clause-handed_out : goal.returns-clause-handed_out
returns-clause-handed_out g c =
    rotated c.self.inside.channel c.self.inside.history _ _ c.in-Ok.chunk _ _ c.self.invariant.1 c.self.invariant.2 c.find_home.ensures
    c.in-Ok.ensures.chunk c.in-Ok.ensures.faithful (subst (λ d. IsAddedTo c.self.inside.history d c.args.past.now c.add.new.past) c.draft-draft.ensures c.add.ensures.added)

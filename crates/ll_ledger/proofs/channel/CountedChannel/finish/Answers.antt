use Rattle.std.proofs.Common.{subst, sym}
use Rattle.ll_ledger.proofs.SectionLemmas.{total}
use Rattle.ll_ledger.proofs.channel.CountedChannel.finish.Goals as goal

pub returns-clause-total : goal.returns-clause-total
returns-clause-total g c seen =
    rw (← c.self.view_is) (total c.self.inside.channel c.self.inside.history c.look-seen.new.past c.finish.result c.self.invariant.1 c.self.invariant.2 (c.look-seen.ensures.all seen) c.finish.ensures.of)

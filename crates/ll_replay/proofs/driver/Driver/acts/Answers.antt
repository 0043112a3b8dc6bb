-- A line that makes one thing happen.
use Rattle.std.proofs.Common.{ap}
use Rattle.ll_script.specs.Lines.{meant_acts}
use Rattle.ll_replay.proofs.RestLemmas.{one-cut, one-told}
use Rattle.ll_replay.proofs.driver.Driver.acts.Goals as goal

pub returns-in-One-clause-ok : goal.returns-in-One-clause-ok
returns-in-One-clause-ok g c = one-told c.done.result _ _ _ _ _ c.in-One.act (ap (meant_acts c.args.self.now.declared) c.in-One.is) c.done.ensures.ok

pub returns-in-One-clause-cut : goal.returns-in-One-clause-cut
returns-in-One-clause-cut g c = one-cut c.done.result _ _ _ _ c.in-One.act (ap (meant_acts c.args.self.now.declared) c.in-One.is) c.done.ensures.cut

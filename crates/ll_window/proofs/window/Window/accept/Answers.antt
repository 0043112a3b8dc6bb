-- A step from what is kept of some items is what is kept of them and one more.
use Rattle.ll_window.proofs.StepLemmas.{goes-on}
use Rattle.ll_window.proofs.window.Window.accept.Goals as goal

pub returns-clause-accepted : goal.returns-clause-accepted
returns-clause-accepted c items reached = goes-on c.args.self.now c.add.new.self items c.args.item c.requires c.in_ok-add.ensures.ok reached

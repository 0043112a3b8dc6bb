-- The rule that refuses an item follows from what is kept.
use Rattle.std.proofs.Common.{None, Some}
use Rattle.ll_window.proofs.StepLemmas.{refusal_told}
use Rattle.ll_window.proofs.window.Window.test.Goals as goal

pub returns-in-Some-clause-first : goal.returns-in-Some-clause-first
returns-in-Some-clause-first c items reached = refusal_told c.args.self.now items c.args.item.now (Some c.in-Some.fault) c.in-Some.ensures reached

pub returns-in-None-clause-first : goal.returns-in-None-clause-first
returns-in-None-clause-first c items reached = refusal_told c.args.self.now items c.args.item.now None c.in-None.ensures reached

-- The rule that refuses an item follows from what is kept.
use Rattle.std.proofs.Common.{None, Some, ap}
use Rattle.std.specs.Option.{option_map}
use Rattle.ll_window.specs.declared.fault.PushError.TheVariants.{Refused}
use Rattle.ll_window.proofs.StepLemmas.{refusal_told}
use Rattle.ll_window.proofs.window.Window.push.Goals as goal

pub returns-in-Some-clause-refused : goal.returns-in-Some-clause-refused
returns-in-Some-clause-refused c items reached not_memory =
    ap (option_map Refused) (refusal_told c.args.self.now items c.args.item (Some c.in-Some.fault) c.in-Some.ensures reached)

pub returns-in-Ok-clause-accepted : goal.returns-in-Ok-clause-accepted
returns-in-Ok-clause-accepted c items reached =
    (refusal_told c.args.self.now items c.args.item None c.in_default.ensures reached, c.in-Ok.ensures.accepted items reached)

pub returns-in-Err-clause-memory : goal.returns-in-Err-clause-memory
returns-in-Err-clause-memory c items reached memory = refusal_told c.args.self.now items c.args.item None c.in_default.ensures reached

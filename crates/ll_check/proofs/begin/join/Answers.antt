-- Memory comes after a fault of the place.
use Rattle.std.proofs.Common.{Err, ap}
use Rattle.ll_check.proofs.HeaderLemmas.{place-first}
use Rattle.ll_settings.specs.Settings.{settings_in}
use Rattle.ll_check.proofs.begin.join.Goals as goal

pub returns-in-Err-Memory-clause-wrong : goal.returns-in-Err-Memory-clause-wrong
returns-in-Err-Memory-clause-wrong c before at other =
    place-first before c.args.header.version (settings_in c.args.header.settings.now) c.args.header.at c.place_fault-fault.result c.unwrap_or.result (c.in-Err-Memory.ensures.memory (ap Err c.in-Err-Memory.field-0-is))
    (λ s. c.place_fault-fault.ensures before s at) c.unwrap_or.ensures other

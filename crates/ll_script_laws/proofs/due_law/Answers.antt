-- The laws have files of their own.
use Rattle.ll_script_laws.proofs.DueLemmas.{due, waits}
use Rattle.ll_script_laws.proofs.LeftLemmas.{none-left}
use Rattle.ll_script_laws.proofs.due_law.Goals as goal

pub returns-clause-finds : goal.returns-clause-finds
returns-clause-finds c = due

pub returns-clause-waits : goal.returns-clause-waits
returns-clause-waits c = waits

pub returns-clause-left : goal.returns-clause-left
returns-clause-left c = none-left

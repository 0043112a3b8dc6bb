-- The laws have a file of their own.
use Rattle.ll_script_laws.proofs.OrderLemmas.{least, order}
use Rattle.ll_script_laws.proofs.least_ready_law.Goals as goal

pub returns-clause-order : goal.returns-clause-order
returns-clause-order c = order

pub returns-clause-least : goal.returns-clause-least
returns-clause-least c = least

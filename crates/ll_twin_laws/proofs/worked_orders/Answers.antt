-- The example is worked in a file of its own.
use Rattle.ll_twin_laws.proofs.WorkedExample.{worked-orders}
use Rattle.ll_twin_laws.proofs.worked_orders.Goals as goal

pub returns : goal.returns
returns c = worked-orders

-- The example is worked in a file of its own.
use Rattle.ll_twin_laws.proofs.WorkedExample.{worked}
use Rattle.ll_twin_laws.proofs.worked_twins.Goals as goal

pub returns : goal.returns
returns c = worked

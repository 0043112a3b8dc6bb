-- The example is worked in a file of its own.
use Rattle.ll_spool_laws.proofs.WorkedExample.{worked}
use Rattle.ll_spool_laws.proofs.worked_spool.Goals as goal

pub returns : goal.returns
returns c = worked

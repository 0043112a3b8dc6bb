-- The example is worked in a file of its own.
use Rattle.ll_apply.proofs.WorkedExamples.{worked}
use Rattle.ll_apply.proofs.laws.worked_update.Goals as goal

pub returns : goal.returns
returns c = worked

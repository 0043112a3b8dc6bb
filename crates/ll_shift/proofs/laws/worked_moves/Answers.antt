-- The worked examples.
use Rattle.ll_shift.proofs.WorkedExamples.{worked}
use Rattle.ll_shift.proofs.laws.worked_moves.Goals as goal

pub returns : goal.returns
returns c = worked

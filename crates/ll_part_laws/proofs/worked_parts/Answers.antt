-- The worked example, which has a file of its own.
use Rattle.ll_part_laws.proofs.WorkedExamples.{worked}
use Rattle.ll_part_laws.proofs.worked_parts.Goals as goal

pub returns : goal.returns
returns c = worked

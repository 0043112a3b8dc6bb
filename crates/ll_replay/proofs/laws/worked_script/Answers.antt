-- The example is worked in a file of its own.
use Rattle.ll_replay.proofs.WorkedExamples.{worked}
use Rattle.ll_replay.proofs.laws.worked_script.Goals as goal

pub returns : goal.returns
returns c = worked

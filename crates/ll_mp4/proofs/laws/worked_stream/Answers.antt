-- The worked examples.
use Rattle.ll_mp4.proofs.WorkedExamples.{worked}
use Rattle.ll_mp4.proofs.laws.worked_stream.Goals as goal

pub returns : goal.returns
returns c = worked

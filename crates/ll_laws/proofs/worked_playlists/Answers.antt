-- The examples are worked in a file of their own.
use Rattle.ll_laws.proofs.WorkedExamples.{worked}
use Rattle.ll_laws.proofs.worked_playlists.Goals as goal

pub returns : goal.returns
returns c = worked

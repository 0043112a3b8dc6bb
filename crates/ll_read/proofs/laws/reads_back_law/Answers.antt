-- The law has a file of its own.
use Rattle.ll_read.proofs.PlaylistBack.{reads-back}
use Rattle.ll_read.proofs.laws.reads_back_law.Goals as goal

pub returns : goal.returns
returns c = reads-back

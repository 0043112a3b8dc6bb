-- The law has a file of its own.
use Rattle.ll_read.proofs.SpelledAgain.{is-readable}
use Rattle.ll_read.proofs.laws.read_is_readable_law.Goals as goal

pub returns : goal.returns
returns c = is-readable

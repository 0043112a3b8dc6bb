-- The law has a file of its own.
use Rattle.ll_read.proofs.SpelledAgain.{spelled-again}
use Rattle.ll_read.proofs.laws.spelled_again_law.Goals as goal

pub returns : goal.returns
returns c = spelled-again

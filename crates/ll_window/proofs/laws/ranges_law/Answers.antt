-- The law is a lemma of its own.
use Rattle.ll_window.proofs.StepLemmas.{silent}
use Rattle.ll_window.proofs.laws.ranges_law.Goals as goal

pub returns : goal.returns
returns c = silent

-- The law has a file of its own.
use Rattle.ll_apply.proofs.MissingLemmas.{not-recent}
use Rattle.ll_apply.proofs.laws.not_recent_law.Goals as goal

pub returns : goal.returns
returns c = not-recent

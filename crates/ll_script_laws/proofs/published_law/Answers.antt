-- The law has a file of its own.
use Rattle.ll_script_laws.proofs.LawProofs.{published}
use Rattle.ll_script_laws.proofs.published_law.Goals as goal

pub returns : goal.returns
returns c = published

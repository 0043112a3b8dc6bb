-- The law has a file of its own.
use Rattle.ll_script_laws.proofs.StandingLemmas.{standing-told}
use Rattle.ll_script_laws.proofs.standing_law.Goals as goal

pub returns : goal.returns
returns c = standing-told

-- The law has a file of its own.
use Rattle.ll_laws.proofs.CompanionProof.{companion}
use Rattle.ll_laws.proofs.companion_law.Goals as goal

pub returns : goal.returns
returns c = companion

-- Items come one at a time.
use Rattle.ll_twin_laws.proofs.MomentProof.{beginning}
use Rattle.ll_twin_laws.proofs.beginning_law.Goals as goal

pub returns : goal.returns
returns c = beginning

-- Lines are cut off one after another.
use Rattle.ll_spool_laws.proofs.SpoolProof.{cut}
use Rattle.ll_spool_laws.proofs.cut_law.Goals as goal

pub returns : goal.returns
returns c = cut

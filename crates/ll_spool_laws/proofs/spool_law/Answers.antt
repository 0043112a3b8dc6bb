-- Lines are read one after another.
use Rattle.ll_spool_laws.proofs.SpoolProof.{spool}
use Rattle.ll_spool_laws.proofs.spool_law.Goals as goal

pub returns : goal.returns
returns c = spool

-- What was accepted is accepted again.
use Rattle.ll_spool_laws.proofs.RestartProof.{restart}
use Rattle.ll_spool_laws.proofs.restart_law.Goals as goal

pub returns : goal.returns
returns c = restart

-- The law has a file of its own.
use Rattle.ll_laws.proofs.PushedProof.{pieces_read, pushed}
use Rattle.ll_laws.proofs.pushed_law.Goals as goal

pub returns-clause-pieces : goal.returns-clause-pieces
returns-clause-pieces c = pieces_read

pub returns-clause-input : goal.returns-clause-input
returns-clause-input c = pushed

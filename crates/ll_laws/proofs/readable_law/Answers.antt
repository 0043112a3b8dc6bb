-- The law has a file of its own.
use Rattle.ll_laws.proofs.ReadableProof.{readable}
use Rattle.ll_laws.proofs.readable_law.Goals as goal

pub returns : goal.returns
returns c = readable

-- The law has a lemma of its own.
use Rattle.ll_entry.proofs.ChunkProof.{chunk}
use Rattle.ll_entry.proofs.laws.chunk_law.Goals as goal

pub returns : goal.returns
returns c = chunk

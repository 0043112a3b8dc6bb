-- The law has a lemma of its own.
use Rattle.ll_entry.proofs.ChunkProof.{first-chunk}
use Rattle.ll_entry.proofs.laws.first_chunk_law.Goals as goal

pub returns : goal.returns
returns c = first-chunk

-- The layouts are those of the accepted items, and so the same bytes stand at each place.
use Rattle.ll_spool_laws.proofs.BytesProof.{same_bytes, stored_too}
use Rattle.ll_spool_laws.proofs.bytes_law.Goals as goal

pub returns : goal.returns
returns c = record { same = same_bytes; stored = stored_too }

-- The law of segments.
use Rattle.ll_part_laws.proofs.PublishedProof.{segments_fit}
use Rattle.ll_part_laws.proofs.segments_law.Goals as goal

pub returns : goal.returns
returns c = segments_fit

-- The law has a file of its own.
use Rattle.ll_laws.proofs.OwnSegmentProof.{own-segment}
use Rattle.ll_laws.proofs.own_segment_law.Goals as goal

pub returns : goal.returns
returns c = own-segment

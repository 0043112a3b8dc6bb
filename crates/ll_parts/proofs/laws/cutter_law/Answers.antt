-- The laws of cutters.
use Rattle.ll_parts.proofs.PartLemmas.{parts_fit}
use Rattle.ll_parts.proofs.SegmentLemmas.{segments_fit}
use Rattle.ll_parts.proofs.StreamLemmas.{bytes_come, end_comes, piece_is_first, units_come}
use Rattle.ll_parts.proofs.laws.cutter_law.Goals as goal

pub returns-clause-bytes : goal.returns-clause-bytes
returns-clause-bytes c = bytes_come

pub returns-clause-pieces : goal.returns-clause-pieces
returns-clause-pieces c = piece_is_first

pub returns-clause-units : goal.returns-clause-units
returns-clause-units c = units_come

pub returns-clause-end : goal.returns-clause-end
returns-clause-end c = end_comes

pub returns-clause-parts : goal.returns-clause-parts
returns-clause-parts c = parts_fit

pub returns-clause-segments : goal.returns-clause-segments
returns-clause-segments c = segments_fit

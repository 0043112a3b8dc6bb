-- The law of parts.
use Rattle.ll_part_laws.proofs.MadeProof.{parts_are_made}
use Rattle.ll_part_laws.proofs.parts_law.Goals as goal

pub returns : goal.returns
returns c = parts_are_made

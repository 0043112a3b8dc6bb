-- The worked example.
use Rattle.std.proofs.Common.{refl}
use Rattle.ll_part_laws.specs.Worked.{WorkedParts}

pub worked : WorkedParts
worked = record { under_way = refl; reached = refl; segment = refl; anew = refl; run = refl; ends = refl; gap = refl; over = refl; units = refl; begins = λ movie. refl; pieces = refl }

-- Parts are equal if all their fields are.
use Rattle.std.proofs.Common.{arith}
use Rattle.std.proofs.lemmas.Bool.Decides.{nat_tests}
use Rattle.std.proofs.lemmas.Slice.Eq.{slice_eq-Decides}
use Rattle.ll_pieces.proofs.piece.are_same.Goals as goal

pub returns : goal.returns
returns c = (slice_eq-Decides (λ a b. (λ h. grind (arith, nat_tests, h), λ h. grind (arith, nat_tests))) _ _ _ c.eq.ensures).0

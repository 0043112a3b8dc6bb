-- The spool of a turn.
use Rattle.std.proofs.Common.{◌≡◌, Option, Some, subst}
use Rattle.ll_service.specs.Turns.{OfSpool}
use Rattle.ll_spool.specs.declared.spool.Spool.{Spool}

-- what is true of the spool that it has
pub of_spool : {D : Type 0} (IsTrue : Spool D → Spool D → Type 0) (before : Option (Spool D)) (old new : Spool D) → Some old ≡ before → IsTrue old new
    → OfSpool IsTrue before (Some new)
of_spool IsTrue before old new is so = subst (λ b. OfSpool IsTrue b (Some new)) is so

-- The definition, computed.
use Rattle.std.proofs.Common.{refl}
use Rattle.ll_apply.specs.Worked.{WorkedUpdate}

pub worked : WorkedUpdate
worked = record { recent = refl; not_recent = refl }

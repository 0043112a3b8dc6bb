-- At the start nothing was read, and nothing is kept.
use Rattle.std.proofs.Common.{refl}
use Rattle.ll_push.proofs.laws.publication_law.Goals as goal

pub returns : goal.returns
returns c t s ahead = (refl, refl)

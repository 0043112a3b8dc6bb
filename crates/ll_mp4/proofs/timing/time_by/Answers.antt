-- Another version.
use Rattle.std.proofs.Common.{arith}
use Rattle.std.proofs.lemmas.Bool.Decides.{nat_tests}
use Rattle.ll_mp4.proofs.timing.time_by.Goals as goal

pub returns-in_default : goal.returns-in_default
returns-in_default c = grind (arith, nat_tests)

-- The versions.
use Rattle.std.proofs.Common.{rules, arith}
use Rattle.std.proofs.lemmas.Bool.Decides.{nat_tests}
use Rattle.ll_mp4.proofs.tracks.after_times.Goals as goal

pub returns-in-0 : goal.returns-in-0
returns-in-0 c = search rules

pub returns-in-1 : goal.returns-in-1
returns-in-1 c = search rules

pub returns-in_default : goal.returns-in_default
returns-in_default c = grind (arith, nat_tests)

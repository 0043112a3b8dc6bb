-- The pieces of the line stand one after another.
use Rattle.std.proofs.Common.{arith}
use Rattle.std.proofs.lemmas.Grind.{common_steps}
use Rattle.ll_script.specs.Answers.{sent_line}
use Rattle.ll_script.proofs.answers.push_sent.Goals as goal

pub returns : goal.returns
unfolding sent_line
returns c = grind (arith, common_steps)

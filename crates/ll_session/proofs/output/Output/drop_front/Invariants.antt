-- What is left to drop of what is left gives what is left in the end; each turn drops an answer or is the last.
use Rattle.std.proofs.Common.{◌≡◌, ◌+◌, length}
use Rattle.ll_session.specs.Output.{unsent}
use Rattle.ll_session.proofs.OutputLemmas.{left, weight}
use Rattle.ll_session.proofs.output.Output.drop_front.Given as goal

abbrev pub invariant-loop-rest : goal.invariant-loop-rest
invariant-loop-rest l = left l.rest l.self ≡ unsent l.fn.n l.fn.self

abbrev pub decreases-loop-rest : goal.decreases-loop-rest
decreases-loop-rest l = weight l.rest + length l.self

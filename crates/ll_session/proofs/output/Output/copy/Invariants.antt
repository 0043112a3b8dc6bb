-- What is copied and the answers that follow are all answers.
use Rattle.std.proofs.Common.{◌≡◌, ◌++◌}
use Rattle.std.specs.List.{concat}
use Rattle.std.specs.VecDeque.Iter.{deque_iter_rest}
use Rattle.ll_session.proofs.output.Output.copy.Given as goal

abbrev pub invariant-loop-answer : goal.invariant-loop-answer
invariant-loop-answer l = l.bytes.items ++ concat (deque_iter_rest l.answer-iterator) ≡ concat l.fn.self

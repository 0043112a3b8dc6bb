use Rattle.std.specs.Prelude.{length}
use Rattle.ll_attr.specs.Words.{pieces_at}
use Rattle.ll_check.proofs.StepLemmas.{GoesTo}
use Rattle.ll_check.specs.Found.{IsAt}
use Rattle.ll_entry.specs.Chain.{Position}
use Rattle.ll_check.proofs.checker.Checker.read.Given as goal

abbrev pub invariant-loop-told : goal.invariant-loop-told
invariant-loop-told l = (p : Position) → IsAt l.initial.self p → GoesTo l.self p (pieces_at 10 l.initial.bytes) (pieces_at 10 l.rest)

abbrev pub decreases-loop-told : goal.decreases-loop-told
decreases-loop-told l = length l.rest

-- What is to come is what was to come before; each unit leaves fewer bytes, or is the last.
use Rattle.ll_push.proofs.PieceLemmas.{Comes, fuel}
use Rattle.ll_push.proofs.publication.front_piece.Given as goal

abbrev pub invariant-loop-piece : goal.invariant-loop-piece
invariant-loop-piece l = record { same : Comes l.fn.cutter l.cutter }

abbrev pub decreases-loop-piece : goal.decreases-loop-piece
decreases-loop-piece l = fuel l.cutter

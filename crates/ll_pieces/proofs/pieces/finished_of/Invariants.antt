-- The pieces so far are those of the first segments that are not skipped.
use Rattle.std.proofs.Common.{◌≡◌, ◌-◌, drop, map, take}
use Rattle.std.specs.Arc.{arc_value}
use Rattle.ll_pieces.specs.Piece.{finished_piece}
use Rattle.ll_pieces.proofs.pieces.finished_of.Given as goal

abbrev pub invariant-loop-place : goal.invariant-loop-place
invariant-loop-place l = map arc_value l.finished.items ≡ map finished_piece (take (l.place - l.skipped) (drop l.skipped l.window.window))

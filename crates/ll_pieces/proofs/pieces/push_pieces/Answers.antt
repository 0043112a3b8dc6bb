-- A turn writes the lines of the piece at its place.
use Rattle.std.proofs.Common.{◌++◌, ◌∙◌, string_bytes, ap}
use Rattle.std.specs.Arc.{arc_value}
use Rattle.ll_line.specs.Text.{text_of}
use Rattle.ll_pieces.specs.Piece.{piece_lines}
use Rattle.ll_pieces.proofs.PieceLemmas.{next-piece}
use Rattle.ll_pieces.proofs.pieces.push_pieces.Goals as goal

pub loop-piece-preserved : goal.loop-piece-preserved
loop-piece-preserved c =
    next-piece arc_value c.loop-piece.first (string_bytes c.loop-piece.text) _ _ c.args.pieces.now c.loop-piece.piece-index c.piece-item.result c.loop-piece-test.true c.piece-item.is
    (c.in_ok-push.ensures ∙ ap (λ p. string_bytes c.loop-piece.text ++ text_of (piece_lines c.loop-piece.first p)) c.deref.ensures) c.loop-piece.invariant

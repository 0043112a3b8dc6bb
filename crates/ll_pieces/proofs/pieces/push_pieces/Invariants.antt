-- The text so far and the lines of the pieces that are left are the whole text.
use Rattle.std.proofs.Common.{◌≡◌, ◌++◌, drop, map, string_bytes}
use Rattle.std.specs.Arc.{arc_value}
use Rattle.ll_line.specs.Text.{text_of}
use Rattle.ll_pieces.specs.Piece.{joined_lines}
use Rattle.ll_pieces.proofs.pieces.push_pieces.Given as goal

abbrev pub invariant-loop-piece : goal.invariant-loop-piece
invariant-loop-piece l =
    string_bytes l.text ++ text_of (joined_lines l.first (map arc_value (drop l.piece-index l.pieces)))
    ≡ string_bytes l.fn.text ++ text_of (joined_lines l.leads (map arc_value l.pieces))

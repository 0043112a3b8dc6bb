-- The lines of the pieces are those of their rows.
use Rattle.std.proofs.Common.{◌++◌, ◌∙◌, ap, map, string_bytes}
use Rattle.std.proofs.lemmas.Result.{on_ok_weaker}
use Rattle.std.specs.Arc.{arc_value}
use Rattle.std.specs.Prelude.{flat_map}
use Rattle.ll_line.specs.Text.{text_of}
use Rattle.ll_pieces.specs.Segments.{printed}
use Rattle.ll_pieces.specs.Piece.{joined_lines}
use Rattle.ll_pieces.specs.Pieces.{PiecesOf}
use Rattle.ll_line.specs.Spelling.{segment_lines}
use Rattle.ll_pieces.proofs.PieceLemmas.{joined-finished}
use Rattle.ll_pieces.proofs.pieces.Pieces.push_finished.Goals as goal

pub returns : goal.returns
returns c =
    on_ok_weaker c.push_pieces.result (λ e. e ∙ ap (λ ls. string_bytes c.args.text.now ++ text_of ls)
    (ap (λ xs. joined_lines c.args.leads (map arc_value xs)) c.deref.ensures.value
    ∙ joined-finished arc_value c.args.leads c.self.inside.finished.items c.self.invariant.0
    ∙ ap (λ (p : PiecesOf). flat_map segment_lines (printed c.args.leads p.finished)) c.self.view_is)) c.push_pieces.ensures

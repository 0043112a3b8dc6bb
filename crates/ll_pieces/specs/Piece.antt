-- For private contracts: the lines of one segment, apart from its playlist.
use Rattle.std.specs.Prelude.{◌≡◌, List, [], ◌∷◌, ◌++◌, Bool, true, false, Option, map}
use Rattle.std.specs.Option.{option_map}
use Rattle.ll_line.specs.Line.{Line}
use Rattle.ll_window.specs.Rows.{Row}
use Rattle.ll_pieces.specs.Segments.{block_of, finished_of}
use Rattle.ll_line.specs.Spelling.{block_lines, segment_lines}

-- what a piece is written of
pub record PieceOf : Type 0 where
  pub row : Row
  -- whether the segment is finished, or else open
  pub finished : Bool

abbrev pub finished_piece : Row → PieceOf
finished_piece row = record { row = row; finished = true }

abbrev pub open_piece : Row → PieceOf
open_piece row = record { row = row; finished = false }

abbrev pub rows_in : List PieceOf → List Row
rows_in pieces = map (λ p. p.row) pieces

abbrev pub row_in : Option PieceOf → Option Row
row_in piece = option_map (λ p. p.row) piece

abbrev pub AreFinished : List PieceOf → Type 0
AreFinished pieces = pieces ≡ map finished_piece (rows_in pieces)

abbrev pub IsOpen : Option PieceOf → Type 0
IsOpen piece = piece ≡ option_map open_piece (row_in piece)

-- the lines of a segment, finished or open, that leads or doesn't
abbrev pub row_lines : Bool → Bool → Row → List Line
row_lines true leads row = segment_lines (finished_of leads row)
row_lines false leads row = block_lines (block_of leads row)

abbrev pub piece_lines : Bool → PieceOf → List Line
piece_lines leads p = row_lines p.finished leads p.row

-- the lines of pieces, of which the first leads or doesn't
abbrev pub joined_lines : Bool → List PieceOf → List Line
joined_lines leads [] = []
joined_lines leads (p ∷ ps) = piece_lines leads p ++ joined_lines false ps

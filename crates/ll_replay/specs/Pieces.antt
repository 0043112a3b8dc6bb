-- Bytes cut at each LF: the lines that an LF ends, and the bytes after the last LF.
use Rattle.std.specs.Prelude.{ℕ, ◌==◌, List, [], ◌∷◌}
use Rattle.std.specs.List.{slice_split}
use Rattle.std.specs.Str.Lines.{strip_carriage_return}

-- the pieces between LFs; the last one is the bytes after the last LF
abbrev pub pieces : List ℕ → List (List ℕ)
pieces bytes = slice_split (λ b. b == 10) bytes

-- the pieces that an LF ends, as lines: a CR before the LF is no part of the line
abbrev pub ended_pieces : List (List ℕ) → List (List ℕ)
ended_pieces [] = []
ended_pieces (piece ∷ []) = []
ended_pieces (piece ∷ next ∷ more) = strip_carriage_return piece ∷ ended_pieces (next ∷ more)

abbrev pub last_piece : List (List ℕ) → List ℕ
last_piece [] = []
last_piece (piece ∷ []) = piece
last_piece (piece ∷ next ∷ more) = last_piece (next ∷ more)

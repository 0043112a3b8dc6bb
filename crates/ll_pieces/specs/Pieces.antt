-- What the pieces of a page are written of.
use Rattle.std.specs.Prelude.{ℕ, List, Option, drop}
use Rattle.ll_window.specs.Compact.{unfinished}
use Rattle.ll_window.specs.Rows.{Row}
use Rattle.ll_pieces.specs.View.{Seen, asked}

-- the segments whose lines are written, each with the parts that it lists
pub record PiecesOf : Type 0 where
  pub finished : List Row
  -- the open segment, if there is one
  pub unfinished : Option Row

-- the segments of the rendition that is asked for, without the first `skipped` finished ones
abbrev pub pieces_from : ℕ → Seen → PiecesOf
pieces_from skipped v = record { finished = drop skipped (asked v).window.window; unfinished = unfinished (asked v).window }

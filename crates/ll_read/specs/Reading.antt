-- The playlist that a text spells, line by line. Each line ends in LF or CR LF, the last one too.
use Rattle.std.specs.Prelude.{ℕ, ◌+◌, List, [], ◌∷◌, ◌++◌, Bool, true, false, not, ◌&&◌, Option, Some, None, Result, Ok, Err, bytes_eq, codes, if◌then◌else◌}
use Rattle.std.specs.Option.{option_map}
use Rattle.std.specs.Str.{is_utf8}
use Rattle.std.specs.Str.Lines.{strip_carriage_return}
use Rattle.ll_attr.specs.Words.{pieces_at}
use Rattle.ll_line.specs.Line.{DateRange, Line}
use Rattle.ll_line.specs.Formats.{line_in}
use Rattle.ll_line.specs.Playlist.{Playlist}
use Rattle.ll_read.specs.Draft.{Draft, blank, plain, put}
use Rattle.ll_read.specs.Ranges.{has_id}
use Rattle.ll_read.specs.Shape.{at_start, shape_next}
use Rattle.ll_read.specs.declared.fault.ReadFault.{ReadFault}
use Rattle.ll_read.specs.declared.fault.ReadFault.TheVariants.{NotPlaylist, BadLine}
use Rattle.ll_read.specs.declared.shape.Shape.{Shape}
use Rattle.ll_read.specs.declared.shape.Stage.{Stage}
use Rattle.ll_read.specs.declared.shape.Stage.TheVariants.{AtEnd}

-- which line is allowed next, and what the lines so far make up
pub record Reading : Type 0 where
  pub shape : Shape
  pub draft : Draft

abbrev pub at : Shape → Draft → Reading
at shape draft = record { shape = shape; draft = draft }

abbrev pub start : Reading
start = at at_start (plain blank)

-- whether a line has no id, or one that no date range before it has
abbrev pub is_new_line : Line → Playlist → Bool
is_new_line (DateRange range) p = not (has_id range.id p.ranges)
is_new_line line p = true

-- the reading after one more line, or none if the line isn't allowed there
abbrev pub next : Reading → Line → Option Reading
next r line = option_map (λ shape. at shape (put line r.draft)) (shape_next r.shape line (is_new_line line r.draft.playlist))

abbrev pub next_line : Reading → Option Line → Option Reading
next_line r None = None
next_line r (Some line) = next r line

-- the result at the end of the text, whose next line would be the line `number`
abbrev pub text_ended : ℕ → Stage → Playlist → Result Playlist ReadFault
text_ended number AtEnd p = Ok p
text_ended number stage p = Err (BadLine number)

abbrev pub and_then : ℕ → Option Reading → (Reading → Result Playlist ReadFault) → Result Playlist ReadFault
and_then number None more = Err (BadLine number)
and_then number (Some r) more = more r

abbrev pub is_empty : {A : Type 0} → List A → Bool
is_empty [] = true
is_empty (x ∷ xs) = false

-- the playlist of the lines, the first of which is line `number`, or the number of the first line that isn't allowed in its place; nothing follows
-- the last LF
abbrev pub read_from : ℕ → Reading → List (List ℕ) → Result Playlist ReadFault
read_from number r [] = text_ended number r.shape.stage r.draft.playlist
read_from number r (rest ∷ []) = if is_empty rest then text_ended number r.shape.stage r.draft.playlist else Err (BadLine number)
read_from number r (line ∷ below ∷ more) =
    and_then number (next_line r (line_in (strip_carriage_return line))) (λ q. read_from (number + 1) q (below ∷ more))

-- the first line, without its end
abbrev pub first_line : List (List ℕ) → List ℕ
first_line [] = []
first_line (rest ∷ []) = rest
first_line (line ∷ below ∷ more) = strip_carriage_return line

-- UTF-8 whose first line is that of a playlist
abbrev pub is_playlist : List ℕ → Bool
is_playlist text = is_utf8 text && bytes_eq (first_line (pieces_at 10 text)) (codes "#EXTM3U")

-- the playlist that a text spells, or why there is none
abbrev pub playlist_in : List ℕ → Result Playlist ReadFault
playlist_in text = if is_playlist text then read_from 1 start (pieces_at 10 text) else Err NotPlaylist

-- the lines, each with LF at its end
abbrev pub line_feeds_of : List (List ℕ) → List ℕ
line_feeds_of [] = []
line_feeds_of (rest ∷ []) = rest
line_feeds_of (line ∷ below ∷ more) = strip_carriage_return line ++ (10 ∷ line_feeds_of (below ∷ more))

-- a text whose lines end in LF or CR LF, with LF for both
abbrev pub with_line_feeds : List ℕ → List ℕ
with_line_feeds text = line_feeds_of (pieces_at 10 text)

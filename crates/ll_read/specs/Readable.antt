-- The playlists and delta updates that are read again from their text.
use Rattle.std.specs.Prelude.{◌≡◌, ◌≤◌, ℕ, List, [], ◌∷◌, Bool, true, false, not, ◌&&◌, ◌||◌, ◌==◌, Option, Ok, is_none, is_some}
use Rattle.std.specs.Str.{is_utf8}
use Rattle.ll_format.specs.Format.{Where}
use Rattle.ll_line.specs.Formats.{line}
use Rattle.ll_line.specs.Line.{DateRangeLine, Skip}
use Rattle.ll_line.specs.Playlist.{Block, Finished, Playlist}
use Rattle.ll_line.specs.Spelling.{lines_of, spelling}
use Rattle.ll_read.specs.Ranges.{has_id}
use Rattle.ll_read.specs.Reading.{is_empty, playlist_in, with_line_feeds}

abbrev pub Each : {A : Type 0} → (A → Type 0) → List A → Type 0
Each P [] = Unit {0}
Each P (x ∷ xs) = P x × Each P xs

-- no two date ranges have the same id (section 4.4.5.1)
abbrev pub are_distinct : List DateRangeLine → Bool
are_distinct [] = true
are_distinct (r ∷ more) = not (has_id r.id more) && are_distinct more

-- whether the open segment is the first of a full playlist, and so has a map
abbrev pub leads : Playlist → Bool
leads p = is_none p.skipped && is_empty p.segments

-- whether the segments can end with the finished ones that there are: a delta update has one of its own
abbrev pub may_end : Playlist → Bool
may_end p = is_none p.skipped || not (is_empty p.segments)

-- there is a MAP line if there must be one, and else none
abbrev pub has_map : Bool → Option (List ℕ) → Bool
has_map true map = is_some map
has_map false map = is_none map

-- each broken segment must have one, and the first of the segments if that one leads (section 4.4.4.5)
abbrev pub have_maps : Bool → List Finished → Bool
have_maps leading [] = true
have_maps leading (s ∷ more) = has_map (s.block.broken || leading) s.block.map && have_maps false more

-- an open segment has a part, and a MAP line if it must
pub record IsReadableOpen (leading : Bool) (b : Block) : Type 0 where
  pub map : has_map (b.broken || leading) b.map ≡ true
  pub some_part : is_empty b.parts ≡ false

-- Each line is within the bounds of its format, MAP lines stand where they must and nowhere else, and a delta update skips something and has a
-- finished segment of its own. The first segment of a full playlist leads.
pub record IsReadable (p : Playlist) : Type 0 where
  pub lines : Each line.Within (lines_of p)
  pub version : (p.header.version == 9 || p.header.version == 10) ≡ true
  pub distinct : are_distinct p.ranges ≡ true
  pub skipped : Where (λ (s : Skip). 1 ≤ s.count) p.skipped
  pub maps : have_maps (is_none p.skipped) p.segments ≡ true
  pub open_block : Where (IsReadableOpen (leads p)) p.open_block
  pub own_segment : may_end p ≡ true
  pub utf8 : is_utf8 (spelling p) ≡ true

-- what is written is read again
abbrev pub ReadsBackLaw : Type 0
ReadsBackLaw = (p : Playlist) → IsReadable p → playlist_in (spelling p) ≡ Ok p

-- what was read is written again, with LF at the end of each line
abbrev pub SpelledAgainLaw : Type 0
SpelledAgainLaw = (text : List ℕ) (p : Playlist) → playlist_in text ≡ Ok p → spelling p ≡ with_line_feeds text

-- what is read is readable
abbrev pub ReadIsReadableLaw : Type 0
ReadIsReadableLaw = (text : List ℕ) (p : Playlist) → playlist_in text ≡ Ok p → IsReadable p

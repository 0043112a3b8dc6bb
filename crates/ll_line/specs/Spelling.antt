-- The lines of a playlist, and its text (section 4.4).
use Rattle.std.specs.Prelude.{ℕ, List, [], ◌∷◌, ◌++◌, Bool, true, false, Option, Some, None, map, flat_map}
use Rattle.ll_line.specs.Line.{Skip, Line, First, Version, TargetDuration, ServerControl, PartTarget, MediaSequence, DiscontinuitySequence, DateRange, Skipped, Discontinuity, Map, Time, Part, Duration, Uri, RenditionReport, Hint, EndList}
use Rattle.ll_line.specs.Text.{text_of}
use Rattle.ll_line.specs.Playlist.{Block, Finished, Header, Playlist}

abbrev pub header_lines : Header → List Line
header_lines h =
    First ∷ Version h.version ∷ TargetDuration h.target
    ∷ ServerControl (record { hold_back = h.hold_back; skip_until = h.skip_until; skips_date_ranges = h.skips_date_ranges })
    ∷ PartTarget h.part_target ∷ []

abbrev pub skip_lines : Option Skip → List Line
skip_lines None = []
skip_lines (Some s) = Skipped s ∷ []

abbrev pub break_lines : Bool → List Line
break_lines true = Discontinuity ∷ []
break_lines false = []

abbrev pub map_lines : Option (List ℕ) → List Line
map_lines None = []
map_lines (Some uri) = Map uri ∷ []

abbrev pub block_lines : Block → List Line
block_lines b = break_lines b.broken ++ (map_lines b.map ++ (Time b.time ∷ map Part b.parts))

abbrev pub segment_lines : Finished → List Line
segment_lines s = block_lines s.block ++ (Duration s.duration ∷ Uri s.uri ∷ [])

abbrev pub open_lines : Option Block → List Line
open_lines None = []
open_lines (Some b) = block_lines b

-- the last line: EXT-X-ENDLIST once the rendition has ended, before that EXT-X-PRELOAD-HINT (sections 4.4.3.4 and 4.4.5.3) (rules 14 and 16)
abbrev pub last_line : Option (List ℕ) → Line
last_line None = EndList
last_line (Some uri) = Hint uri

-- the lines before all date ranges and segments (rule 20)
abbrev pub head_lines : Playlist → List Line
head_lines p = header_lines p.header ++ (MediaSequence p.sequence ∷ DiscontinuitySequence p.discontinuity ∷ [])

-- the lines after all finished segments
abbrev pub tail_lines : Playlist → List Line
tail_lines p = open_lines p.open_block ++ (map RenditionReport p.reports ++ last_line p.hint ∷ [])

-- all lines of a playlist
abbrev pub lines_of : Playlist → List Line
lines_of p = head_lines p ++ (map DateRange p.ranges ++ (skip_lines p.skipped ++ (flat_map segment_lines p.segments ++ tail_lines p)))

-- its text: each line with LF at its end
abbrev pub spelling : Playlist → List ℕ
spelling p = text_of (lines_of p)

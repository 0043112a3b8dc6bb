-- The lines of the segments of a playlist (section 4.4.4).
use Rattle.std.specs.Prelude.{ℕ, ◌+◌, ◌/◌, ◌||◌, List, [], ◌∷◌, Bool, true, false, Option, Some, None}
use Rattle.ll_format.specs.Times.{time_text}
use Rattle.ll_item.specs.declared.part.Part.{Part}
use Rattle.ll_window.specs.Rows.{Row}
use Rattle.ll_line.specs.Line.{PartLine}
use Rattle.ll_line.specs.Playlist.{Block, Finished}
use Rattle.ll_line.specs.Uris.{segment_uri, part_uri, map_uri}

-- the lines of parts of the segment with this Media Sequence Number, the first of which has this index (rules 7 and 19)
abbrev pub part_lines : ℕ → ℕ → List Part → List PartLine
part_lines number index [] = []
part_lines number index (p ∷ ps) =
    (record { duration = p.duration; uri = part_uri number index; independent = p.independent }) ∷ part_lines number (index + 1) ps

abbrev pub map_of : Bool → ℕ → Option (List ℕ)
map_of true number = Some (map_uri number)
map_of false number = None

-- The lines of a segment before its EXTINF line. A MAP line is at a segment that `leads`, the first of a full playlist, and at each broken one
-- (section 4.4.4.5). The time is cut to milliseconds (rules 12 and 13).
abbrev pub block_of : Bool → Row → Block
block_of leads row = record {
  broken = row.segment.broken;
  map = map_of (leads || row.segment.broken) row.segment.map_number;
  time = time_text (row.segment.time / 1000);
  parts = part_lines row.segment.number 0 row.parts;
}

abbrev pub finished_of : Bool → Row → Finished
finished_of leads row = record { block = block_of leads row; duration = row.segment.duration; uri = segment_uri row.segment.number }

-- finished segments, of which the first leads or doesn't
abbrev pub printed : Bool → List Row → List Finished
printed leads [] = []
printed leads (row ∷ more) = finished_of leads row ∷ printed false more

-- the lines of the open segment, if there is one
abbrev pub open_of : Bool → Option Row → Option Block
open_of leads None = None
open_of leads (Some row) = Some (block_of leads row)

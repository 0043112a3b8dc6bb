-- The contents of a Media Playlist (section 4.4).
use Rattle.std.specs.Prelude.{ℕ, List, Bool, Option}
pub use Rattle.ll_line.specs.Line.{DateRangeLine, PartLine, Report, Skip}

-- the lines of a segment before its EXTINF line
pub record Block : Type 0 where
  -- whether the segment has an EXT-X-DISCONTINUITY line
  pub broken : Bool
  -- the URI of its EXT-X-MAP line, if it has one
  pub map : Option (List ℕ)
  -- the time of its EXT-X-PROGRAM-DATE-TIME line, as it is spelled
  pub time : List ℕ
  pub parts : List PartLine

-- a segment with its EXTINF line and its URI
pub record Finished : Type 0 where
  pub block : Block
  -- microseconds
  pub duration : ℕ
  pub uri : List ℕ

-- the first lines, which stay the same while the stream goes on
pub record Header : Type 0 where
  pub version : ℕ
  -- seconds
  pub target : ℕ
  -- microseconds
  pub hold_back : ℕ
  -- microseconds
  pub skip_until : ℕ
  -- whether a delta update may skip date ranges
  pub skips_date_ranges : Bool
  -- microseconds
  pub part_target : ℕ

pub record Playlist : Type 0 where
  pub header : Header
  -- the Media Sequence Number of the first segment
  pub sequence : ℕ
  -- the Discontinuity Sequence Number
  pub discontinuity : ℕ
  pub ranges : List DateRangeLine
  -- in a delta update, the line that stands for the segments before these
  pub skipped : Option Skip
  pub segments : List Finished
  -- the lines of the open segment, if there is one
  pub open_block : Option Block
  pub reports : List Report
  -- the URI of the next part, none if the rendition has ended
  pub hint : Option (List ℕ)

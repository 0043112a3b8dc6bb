-- The contents of a line of a Media Playlist (section 4.4).
use Rattle.std.specs.Prelude.{ℕ, List, Bool, Option}

-- an EXT-X-SERVER-CONTROL line
pub record Control : Type 0 where
  -- microseconds
  pub hold_back : ℕ
  -- microseconds
  pub skip_until : ℕ
  -- whether a delta update may skip date ranges
  pub skips_date_ranges : Bool

-- an EXT-X-DATERANGE line
pub record DateRangeLine : Type 0 where
  pub id : List ℕ
  -- its other attributes, as an attribute list is spelled
  pub attributes : List ℕ

-- an EXT-X-SKIP line
pub record Skip : Type 0 where
  -- the number of segments that are skipped
  pub count : ℕ
  -- the ids of date ranges that were removed recently, if the line has RECENTLY-REMOVED-DATERANGES
  pub removed : Option (List (List ℕ))

-- an EXT-X-PART line
pub record PartLine : Type 0 where
  -- microseconds
  pub duration : ℕ
  pub uri : List ℕ
  pub independent : Bool

-- an EXT-X-RENDITION-REPORT line
pub record Report : Type 0 where
  pub uri : List ℕ
  -- the Media Sequence Number of the rendition's last segment with a part
  pub number : ℕ
  -- the Part Index of the last part of that segment
  pub index : ℕ

pub data Line : Type 0 where
  -- EXTM3U
  First : Line
  Version : ℕ → Line
  -- seconds
  TargetDuration : ℕ → Line
  ServerControl : Control → Line
  -- microseconds
  PartTarget : ℕ → Line
  MediaSequence : ℕ → Line
  DiscontinuitySequence : ℕ → Line
  DateRange : DateRangeLine → Line
  Skipped : Skip → Line
  Discontinuity : Line
  -- a URI
  Map : List ℕ → Line
  -- EXT-X-PROGRAM-DATE-TIME
  Time : List ℕ → Line
  Part : PartLine → Line
  -- EXTINF, in microseconds
  Duration : ℕ → Line
  -- a segment's URI
  Uri : List ℕ → Line
  RenditionReport : Report → Line
  -- EXT-X-PRELOAD-HINT: a URI
  Hint : List ℕ → Line
  EndList : Line

-- Which line is allowed where in a playlist, by what comes before it: which line that is, and whether the segments can end there. `Stage` and `Shape`
-- are declared in src/shape.rt.
use Rattle.std.specs.Prelude.{Bool, true, false, ◌||◌, ◌==◌, Option, Some, None, nat_le}
use Rattle.ll_line.specs.Line.{DateRange, Discontinuity, DiscontinuitySequence, Duration, EndList, First, Hint, Line, Map, MediaSequence, Part, PartTarget, RenditionReport, ServerControl, Skipped, TargetDuration, Time, Uri, Version}
use Rattle.ll_read.specs.declared.shape.Shape.{Shape}
use Rattle.ll_read.specs.declared.shape.Stage.{Stage}
use Rattle.ll_read.specs.declared.shape.Stage.TheVariants.{AtStart, AfterFirst, AfterVersion, AfterTargetDuration, AfterControl, AfterPartTarget, AfterMediaSequence, InRanges, BetweenSegments, AfterDiscontinuity, AfterMap, InSegment, InParts, AfterDuration, InReports, AtEnd}

abbrev pub at_start : Shape
at_start = record { stage = AtStart; may_end = true }

abbrev pub to : Stage → Shape → Shape
to stage s = record s { stage = stage }

-- a delta update has a finished segment of its own
abbrev pub after_skip : Shape
after_skip = record { stage = BetweenSegments; may_end = false }

abbrev pub after_segment : Shape
after_segment = record { stage = BetweenSegments; may_end = true }

abbrev pub only_if : Bool → Option Shape → Option Shape
only_if true s = s
only_if false s = None

-- lines in a fixed order: the seven lines of the header, and the lines of a segment. The version is 9 or 10.
abbrev pub in_order : Stage → Line → Shape → Option Shape
in_order AtStart First s = Some (to AfterFirst s)
in_order AfterFirst (Version n) s = only_if (n == 9 || n == 10) (Some (to AfterVersion s))
in_order AfterVersion (TargetDuration n) s = Some (to AfterTargetDuration s)
in_order AfterTargetDuration (ServerControl control) s = Some (to AfterControl s)
in_order AfterControl (PartTarget n) s = Some (to AfterPartTarget s)
in_order AfterPartTarget (MediaSequence n) s = Some (to AfterMediaSequence s)
in_order AfterMediaSequence (DiscontinuitySequence n) s = Some (to InRanges s)
in_order AfterDiscontinuity (Map uri) s = Some (to AfterMap s)
in_order AfterMap (Time time) s = Some (to InSegment s)
in_order InSegment (Part part) s = Some (to InParts s)
in_order InSegment (Duration n) s = Some (to AfterDuration s)
in_order AfterDuration (Uri uri) s = Some after_segment
in_order stage line s = None

-- after all segments: reports, and then a hint or the end
abbrev pub after_segments : Line → Shape → Option Shape
after_segments (RenditionReport r) s = Some (to InReports s)
after_segments (Hint uri) s = Some (to AtEnd s)
after_segments EndList s = Some (to AtEnd s)
after_segments line s = None

-- after the header and any date ranges, no two of which have the same id (section 4.4.5.1): a skip line, which skips something (section 4.4.5.2), the
-- first segment of a full playlist, which has a map (section 4.4.4.5), or no segment
abbrev pub in_ranges : Line → Bool → Shape → Option Shape
in_ranges (DateRange range) is_new s = only_if is_new (Some s)
in_ranges (Skipped skip) is_new s = only_if (nat_le 1 skip.count) (Some after_skip)
in_ranges Discontinuity is_new s = Some (to AfterDiscontinuity s)
in_ranges (Map uri) is_new s = Some (to AfterMap s)
in_ranges line is_new s = after_segments line s

-- after a skip line or a segment: a segment, which has a map after a discontinuity (section 4.4.4.3) and only then, or no further segment
abbrev pub between_segments : Line → Shape → Option Shape
between_segments Discontinuity s = Some (to AfterDiscontinuity s)
between_segments (Time time) s = Some (to InSegment s)
between_segments line s = only_if s.may_end (after_segments line s)

-- after a part: its segment can stay open, and then no segment follows
abbrev pub in_parts : Line → Shape → Option Shape
in_parts (Part part) s = Some s
in_parts (Duration n) s = Some (to AfterDuration s)
in_parts line s = only_if s.may_end (after_segments line s)

abbrev pub next_at : Stage → Line → Bool → Shape → Option Shape
next_at InRanges line is_new s = in_ranges line is_new s
next_at BetweenSegments line is_new s = between_segments line s
next_at InParts line is_new s = in_parts line s
next_at InReports line is_new s = after_segments line s
next_at stage line is_new s = in_order stage line s

-- the shape after one more line, or none if the line isn't allowed there; `is_new` says whether the id of a date range is new
abbrev pub shape_next : Shape → Line → Bool → Option Shape
shape_next s line is_new = next_at s.stage line is_new s

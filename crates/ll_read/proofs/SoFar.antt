-- The readings after lines: what is known at each stage, the lines that it stands for, and what holds of it.
use Rattle.std.proofs.Common.{◌≡◌, ℕ, ◌≤◌, ◌==◌, ◌||◌, true, false, List, [], ◌∷◌, ◌++◌, map, Option, Some, None, is_none}
use Rattle.std.specs.List.{flat_map}
use Rattle.ll_format.specs.Format.{Where}
use Rattle.ll_line.specs.Line.{DateRange, Discontinuity, Duration, First, Line, Map, MediaSequence, RenditionReport, ServerControl, Skip, TargetDuration, Version}
use Rattle.ll_line.specs.Playlist.{Block, Header, Playlist}
use Rattle.ll_line.specs.Spelling.{block_lines, break_lines, head_lines, header_lines, last_line, open_lines, segment_lines, skip_lines}
use Rattle.ll_read.specs.Draft.{Draft, blank, new_block, plain}
use Rattle.ll_read.specs.Readable.{IsReadableOpen, are_distinct, has_map, have_maps, leads, may_end}
use Rattle.ll_read.specs.Reading.{Reading, at, is_empty}
use Rattle.ll_read.specs.declared.shape.Stage.{Stage}
use Rattle.ll_read.specs.declared.shape.Stage.TheVariants.{AtStart, AfterFirst, AfterVersion, AfterTargetDuration, AfterControl, AfterPartTarget, AfterMediaSequence, InRanges, BetweenSegments, AfterDiscontinuity, AfterMap, InSegment, InParts, AfterDuration, InReports, AtEnd}

-- a playlist up to somewhere

abbrev pub headed : Header → ℕ → Playlist
headed header sequence = record blank { header = header; sequence = sequence }

abbrev pub to_ranges : Playlist → Playlist
to_ranges p = record p { skipped = None; segments = []; open_block = None; reports = []; hint = None }

abbrev pub to_segments : Playlist → Playlist
to_segments p = record p { open_block = None; reports = []; hint = None }

abbrev pub to_reports : Playlist → Playlist
to_reports p = record p { hint = None }

abbrev pub block_of : Option Block → Block
block_of None = new_block false None []
block_of (Some b) = b

abbrev pub uri_of : Option (List ℕ) → List ℕ
uri_of None = []
uri_of (Some uri) = uri

abbrev pub in_block : Block → Playlist → Draft
in_block b p = record (plain p) { segment = Some b }

-- exactly what is known of a draft at a stage
abbrev pub known : Stage → Draft → Draft
known AfterVersion d = plain (headed (record (blank.header) { version = d.playlist.header.version }) 0)
known AfterTargetDuration d = plain (headed (record (blank.header) { version = d.playlist.header.version; target = d.playlist.header.target }) 0)
known AfterControl d = plain (headed (record (d.playlist.header) { part_target = 0 }) 0)
known AfterPartTarget d = plain (headed d.playlist.header 0)
known AfterMediaSequence d = plain (headed d.playlist.header d.playlist.sequence)
known InRanges d = plain (to_ranges d.playlist)
known BetweenSegments d = plain (to_segments d.playlist)
known AfterDiscontinuity d = record (plain (to_segments d.playlist)) { broken = true }
known AfterMap d = record (plain (to_segments d.playlist)) { broken = d.broken; map = Some (uri_of d.map) }
known InSegment d = in_block (block_of d.segment) (to_segments d.playlist)
known InParts d = in_block (block_of d.segment) (to_segments d.playlist)
known AfterDuration d = record (in_block (block_of d.segment) (to_segments d.playlist)) { duration = d.duration }
known InReports d = plain (to_reports d.playlist)
known AtEnd d = plain d.playlist
known stage d = plain blank

abbrev pub reading_at : Stage → Draft → Reading
reading_at stage d = at (record { stage = stage; may_end = may_end (known stage d).playlist }) (known stage d)

-- the lines of a playlist up to somewhere, and more

abbrev pub ranged : Playlist → List Line → List Line
ranged p more = head_lines p ++ (map DateRange p.ranges ++ more)

abbrev pub segmented : Playlist → List Line → List Line
segmented p more = ranged p (skip_lines p.skipped ++ (flat_map segment_lines p.segments ++ more))

abbrev pub reported : Playlist → List Line → List Line
reported p more = segmented p (open_lines p.open_block ++ (map RenditionReport p.reports ++ more))

-- the lines that a draft at a stage stands for, and more
abbrev pub so_far : Stage → Draft → List Line → List Line
so_far AtStart d more = more
so_far AfterFirst d more = First ∷ more
so_far AfterVersion d more = First ∷ Version d.playlist.header.version ∷ more
so_far AfterTargetDuration d more = First ∷ Version d.playlist.header.version ∷ TargetDuration d.playlist.header.target ∷ more
so_far AfterControl d more =
    let h = d.playlist.header in
    First ∷ Version h.version ∷ TargetDuration h.target ∷ ServerControl (record { hold_back = h.hold_back; skip_until = h.skip_until; skips_date_ranges = h.skips_date_ranges }) ∷ more
so_far AfterPartTarget d more = header_lines d.playlist.header ++ more
so_far AfterMediaSequence d more = header_lines d.playlist.header ++ (MediaSequence d.playlist.sequence ∷ more)
so_far InRanges d more = ranged d.playlist more
so_far BetweenSegments d more = segmented d.playlist more
so_far AfterDiscontinuity d more = segmented d.playlist (Discontinuity ∷ more)
so_far AfterMap d more = segmented d.playlist (break_lines d.broken ++ (Map (uri_of d.map) ∷ more))
so_far InSegment d more = segmented d.playlist (block_lines (block_of d.segment) ++ more)
so_far InParts d more = segmented d.playlist (block_lines (block_of d.segment) ++ more)
so_far AfterDuration d more = segmented d.playlist (block_lines (block_of d.segment) ++ (Duration d.duration ∷ more))
so_far InReports d more = reported d.playlist more
so_far AtEnd d more = reported d.playlist (last_line d.playlist.hint ∷ more)

-- what holds at a stage

abbrev pub HasVersion : Playlist → Type 0
HasVersion p = (p.header.version == 9 || p.header.version == 10) ≡ true

abbrev pub IsSound : Playlist → Type 0
IsSound p =
    HasVersion p × (are_distinct p.ranges ≡ true) × Where (λ (s : Skip). 1 ≤ s.count) p.skipped × (have_maps (is_none p.skipped) p.segments ≡ true)

abbrev pub IsWhole : Playlist → Type 0
IsWhole p = IsSound p × (may_end p ≡ true) × Where (IsReadableOpen (leads p)) p.open_block

abbrev pub HasMap : Playlist → Block → Type 0
HasMap p b = has_map (b.broken || leads p) b.map ≡ true

abbrev pub Holds : Stage → Draft → Type 0
Holds AtStart d = Unit {0}
Holds AfterFirst d = Unit {0}
Holds InRanges d = HasVersion d.playlist × (are_distinct d.playlist.ranges ≡ true)
Holds BetweenSegments d = IsSound d.playlist × (leads d.playlist ≡ false)
Holds AfterDiscontinuity d = IsSound d.playlist
Holds AfterMap d = IsSound d.playlist × ((d.broken || leads d.playlist) ≡ true)
Holds InSegment d = IsSound d.playlist × HasMap d.playlist (block_of d.segment)
Holds InParts d = IsSound d.playlist × HasMap d.playlist (block_of d.segment) × (is_empty (block_of d.segment).parts ≡ false)
Holds AfterDuration d = IsSound d.playlist × HasMap d.playlist (block_of d.segment)
Holds InReports d = IsWhole d.playlist
Holds AtEnd d = IsWhole d.playlist
Holds stage d = HasVersion d.playlist

-- The playlist that the lines so far make up, and what they say of the segment under way (section 4.4).
use Rattle.std.specs.Prelude.{ℕ, List, [], ◌∷◌, ◌++◌, Bool, true, false, Option, Some, None}
use Rattle.std.specs.Option.{option_map}
use Rattle.ll_line.specs.Line.{DateRange, Discontinuity, DiscontinuitySequence, Duration, EndList, First, Hint, Line, Map, MediaSequence, Part, PartLine, PartTarget, RenditionReport, ServerControl, Skipped, TargetDuration, Time, Uri, Version}
use Rattle.ll_line.specs.Playlist.{Block, Header, Playlist}

pub record Draft : Type 0 where
  pub playlist : Playlist
  -- whether the next segment begins with a discontinuity
  pub broken : Bool
  -- the next segment's map
  pub map : Option (List ℕ)
  -- the segment under way
  pub segment : Option Block
  -- the duration of the segment under way
  pub duration : ℕ

-- the playlist before the first line
abbrev pub blank : Playlist
blank = record {
  header = record { version = 0; target = 0; hold_back = 0; skip_until = 0; skips_date_ranges = false; part_target = 0 };
  sequence = 0;
  discontinuity = 0;
  ranges = [];
  skipped = None;
  segments = [];
  open_block = None;
  reports = [];
  hint = None;
}

abbrev pub plain : Playlist → Draft
plain p = record { playlist = p; broken = false; map = None; segment = None; duration = 0 }

abbrev pub with_header : Header → Playlist → Playlist
with_header h p = record p { header = h }

abbrev pub new_block : Bool → Option (List ℕ) → List ℕ → Block
new_block broken map time = record { broken = broken; map = map; time = time; parts = [] }

abbrev pub with_part : PartLine → Block → Block
with_part part b = record b { parts = b.parts ++ part ∷ [] }

abbrev pub with_segment : Option Block → ℕ → List ℕ → Playlist → Playlist
with_segment None duration uri p = p
with_segment (Some b) duration uri p = record p { segments = p.segments ++ (record { block = b; duration = duration; uri = uri }) ∷ [] }

-- the segment under way, if there is one, stays open
abbrev pub with_open : Option Block → Playlist → Playlist
with_open None p = p
with_open (Some b) p = record p { open_block = Some b }

abbrev pub closed : Draft → Draft
closed d = record d { playlist = with_open d.segment d.playlist; segment = None }

-- the draft with one more line, whether it is allowed there or not
abbrev pub put : Line → Draft → Draft
put First d = d
put (Version n) d = record d { playlist = with_header (record (d.playlist.header) { version = n }) d.playlist }
put (TargetDuration n) d = record d { playlist = with_header (record (d.playlist.header) { target = n }) d.playlist }
put (ServerControl control) d =
    record d { playlist = with_header (record (d.playlist.header) { hold_back = control.hold_back; skip_until = control.skip_until; skips_date_ranges = control.skips_date_ranges }) d.playlist }
put (PartTarget n) d = record d { playlist = with_header (record (d.playlist.header) { part_target = n }) d.playlist }
put (MediaSequence n) d = record d { playlist = record (d.playlist) { sequence = n } }
put (DiscontinuitySequence n) d = record d { playlist = record (d.playlist) { discontinuity = n } }
put (DateRange range) d = record d { playlist = record (d.playlist) { ranges = d.playlist.ranges ++ range ∷ [] } }
put (Skipped skip) d = record d { playlist = record (d.playlist) { skipped = Some skip } }
put Discontinuity d = record d { broken = true }
put (Map uri) d = record d { map = Some uri }
put (Time time) d = record d { broken = false; map = None; segment = Some (new_block d.broken d.map time) }
put (Part part) d = record d { segment = option_map (with_part part) d.segment }
put (Duration n) d = record d { duration = n }
put (Uri uri) d = record d { playlist = with_segment d.segment d.duration uri d.playlist; segment = None; duration = 0 }
put (RenditionReport r) d = record d { playlist = record (with_open d.segment d.playlist) { reports = d.playlist.reports ++ r ∷ [] }; segment = None }
put (Hint uri) d = record d { playlist = record (with_open d.segment d.playlist) { hint = Some uri }; segment = None }
put EndList d = closed d

-- The full playlist of a rendition (sections 4.4 and 6.2.1).
use Rattle.std.specs.Prelude.{ℕ, ◌+◌, ◌*◌, ◌==◌, List, [], ◌∷◌, ◌++◌, Bool, true, false, Option, Some, None, length, map}
use Rattle.ll_settings.specs.Settings.{Configuration, skip_limit}
use Rattle.ll_item.specs.declared.item.Item.{Item}
use Rattle.ll_window.specs.declared.part_position.PartPosition.{PartPosition}
use Rattle.ll_window.specs.Compact.{Compact, unfinished}
use Rattle.ll_window.specs.Rows.{Row}
use Rattle.ll_item.specs.Told.{Listed}
use Rattle.ll_range.specs.Announced.{Announced}
use Rattle.ll_rendition.specs.declared.rendition.Rendition.{Rendition}
use Rattle.ll_line.specs.Line.{DateRangeLine, Report}
use Rattle.ll_line.specs.Playlist.{Header, Playlist}
use Rattle.ll_line.specs.Spelling.{spelling}
use Rattle.ll_line.specs.Uris.{part_uri, report_uri}
use Rattle.ll_pieces.specs.Segments.{printed, open_of}
use Rattle.ll_pieces.specs.View.{Seen, seen, asked}

-- the lines that depend on the settings alone (rule 20)
abbrev pub header_of : Configuration → Header
header_of c = record {
  version = 10;
  target = c.target;
  hold_back = 3 * c.part_target;
  skip_until = skip_limit c;
  skips_date_ranges = true;
  part_target = c.part_target;
}

-- the Media Sequence Number of the first finished segment; without one, of the open segment or else the next (rule 6)
abbrev pub sequence_of : Compact → List Row → ℕ
sequence_of k [] = k.next_number
sequence_of k (row ∷ more) = row.segment.number

-- the report of a rendition, if it has a part and the playlist is not its own (rule 15)
abbrev pub report_by : Bool → List ℕ → Option PartPosition → List Report
report_by true name last = []
report_by false name None = []
report_by false name (Some place) = (record { uri = report_uri name; number = place.number; index = place.index }) ∷ []

-- the reports of renditions with these names, the first of which has the index `rendition`, in the playlist of the one with the index `asked`,
-- in the settings' order (rule 15)
abbrev pub reports_from : ℕ → ℕ → List (List ℕ) → List Rendition → List Report
reports_from asked rendition names [] = []
reports_from asked rendition [] (k ∷ ks) = []
reports_from asked rendition (name ∷ names) (k ∷ ks) =
    report_by (rendition == asked) name k.window.last ++ reports_from asked (rendition + 1) names ks

abbrev pub reports_of : Seen → List Report
reports_of v = reports_from v.rendition 0 v.settings.renditions v.renditions

abbrev pub hint_by : Bool → List ℕ → Option (List ℕ)
hint_by true uri = None
hint_by false uri = Some uri

-- the part after the last of the open segment, or the first of the next; none after the end (rule 16)
abbrev pub hint_of : Compact → Option (List ℕ)
hint_of k = hint_by k.ended (part_uri k.next_number (length k.open_parts))

abbrev pub range_line : Listed → DateRangeLine
range_line range = record { id = range.id; attributes = range.attributes }

-- the date ranges that are listed, in order of adding (rule 17)
abbrev pub range_lines : Announced → List DateRangeLine
range_lines a = map range_line a.listed

-- the full playlist of a rendition, with the segments of its window (rule 9)
abbrev pub playlist_of : Configuration → List Report → Rendition → Playlist
playlist_of c reports k = record {
  header = header_of c;
  sequence = sequence_of k.window k.window.window;
  discontinuity = k.window.discontinuity;
  ranges = range_lines k.ranges;
  skipped = None;
  segments = printed true k.window.window;
  open_block = open_of (length k.window.window == 0) (unfinished k.window);
  reports = reports;
  hint = hint_of k.window;
}

-- the playlist of the rendition that is asked for
abbrev pub full_playlist : Seen → Playlist
full_playlist v = playlist_of v.settings (reports_of v) (asked v)

-- the text of the full playlist
abbrev pub full_text : Seen → List ℕ
full_text v = spelling (full_playlist v)

-- the text of a rendition's full playlist after these items of its channel
abbrev pub text_after : Configuration → List Item → ℕ → List ℕ
text_after c items rendition = full_text (seen c items rendition)

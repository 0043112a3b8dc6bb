-- The delta update of a rendition (sections 4.4.5.2 and 6.2.5.1).
use Rattle.std.specs.Prelude.{ℕ, zero, suc, List, false, Option, Some, None, drop, map}
use Rattle.ll_item.specs.Told.{Listed, Removal}
use Rattle.ll_range.specs.Announced.{left_at, recent_at}
use Rattle.ll_rendition.specs.declared.rendition.Rendition.{Rendition}
use Rattle.ll_window.specs.Compact.{skip_count}
use Rattle.ll_line.specs.Line.{Skip}
use Rattle.ll_line.specs.Playlist.{Playlist}
use Rattle.ll_line.specs.Spelling.{spelling}
use Rattle.ll_pieces.specs.Segments.{printed}
use Rattle.ll_page.specs.Full.{range_line, full_playlist}
use Rattle.ll_pieces.specs.View.{Seen, asked}
use Rattle.ll_item.specs.declared.skip_kind.SkipKind.{SkipKind}
use Rattle.ll_item.specs.declared.skip_kind.SkipKind.TheVariants.{Yes, V2}

-- the date ranges that a delta update of this kind lists: all of them, or those that it doesn't skip
abbrev pub ranges_left : SkipKind → Rendition → List Listed
ranges_left Yes k = k.ranges.listed
ranges_left V2 k = left_at k.window.end_time k.ranges

-- the ids of the recent removals, in order of removal, which an update of kind V2 lists, even if there are none (rule 18)
abbrev pub ids_removed : SkipKind → Rendition → Option (List (List ℕ))
ids_removed Yes k = None
ids_removed V2 k = Some (map (λ (removal : Removal). removal.id) (recent_at k.window.end_time k.ranges))

-- the line that stands for the skipped segments and lists the removals, if segments are skipped
abbrev pub skip_of : Option (List (List ℕ)) → ℕ → Option Skip
skip_of removed zero = None
skip_of removed (suc n) = Some (record { count = suc n; removed = removed })

-- the full playlist without the first `count` segments and the date ranges that are skipped; no segment has a MAP line for being the first
abbrev pub update_of : SkipKind → Seen → ℕ → Playlist
update_of kind v count = record (full_playlist v) {
  ranges = map range_line (ranges_left kind (asked v));
  skipped = skip_of (ids_removed kind (asked v)) count;
  segments = printed false (drop count (asked v).window.window);
}

abbrev pub delta_by : SkipKind → ℕ → Seen → Playlist
delta_by kind zero v = full_playlist v
delta_by kind (suc n) v = update_of kind v (suc n)

-- The delta update of the rendition that is asked for. If no segment is skipped, it is the full playlist, with all its date
-- ranges (rule 21).
abbrev pub delta_playlist : SkipKind → Seen → Playlist
delta_playlist kind v = delta_by kind (skip_count (asked v).window) v

-- the text of the delta update
abbrev pub delta_text : SkipKind → Seen → List ℕ
delta_text kind v = spelling (delta_playlist kind v)

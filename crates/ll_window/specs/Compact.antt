-- What is kept of all items of a rendition for its segments and parts.
use Rattle.std.specs.Prelude.{◌≡◌, ℕ, ◌+◌, ◌*◌, List, [], ◌∷◌, ◌++◌, Bool, true, Option, Some, None, length}
use Rattle.ll_item.specs.Items.{is_about_ranges}
use Rattle.ll_settings.specs.Settings.{Configuration, skip_limit}
use Rattle.ll_item.specs.declared.item.Item.{Item}
use Rattle.ll_item.specs.declared.part.Part.{Part}
use Rattle.ll_window.specs.declared.part_position.PartPosition.{PartPosition}
use Rattle.ll_window.specs.Numbers.{numbered_parts, last_place}
use Rattle.ll_window.specs.Rows.{Row, row, rows, begun, restarted, time_after, broken_in, is_broken, one_if}
use Rattle.ll_item.specs.Told.{end_time, told}
use Rattle.ll_window.specs.Segments.{parts, segments, open_segment, duration, ended}
use Rattle.ll_window.specs.Window.{window_limit, near_limit, gone, window, listed, skipped_in}

pub record Compact : Type 0 where
  pub settings : Configuration
  -- the finished segments that a full playlist shows (rule 9)
  pub window : List Row
  pub open_parts : List Part
  -- the Media Sequence Number of the open segment, or of the next one if none is open
  pub next_number : ℕ
  -- the number of finished segments that are broken
  pub maps : ℕ
  -- when the open segment begins; if none is open, when the next one begins unless a break sets its time: microseconds since 1970-01-01T00:00:00Z
  pub open_time : ℕ
  -- the duration of all parts together, in microseconds
  pub end_time : ℕ
  -- whether a break came after the last part
  pub pending : Bool
  -- the time that a break after the last part set, if one did: milliseconds since 1970-01-01T00:00:00Z
  pub restart : Option ℕ
  -- how many broken segments have left the window (section 4.4.3.3, rule 11)
  pub discontinuity : ℕ
  -- the position of the last part, if there is one
  pub last : Option PartPosition
  -- whether the rendition has ended
  pub ended : Bool

-- all finished segments (rule 6)
abbrev pub all_rows : Configuration → List Item → List Row
all_rows c items = rows c.first 0 (c.start * 1000) (segments items)

-- what is kept of these items of one rendition (rule 11)
abbrev pub compact : Configuration → List Item → Compact
compact c items = record {
  settings = c;
  window = listed (near_limit c) (duration (open_segment items)) (window (window_limit c) (all_rows c items));
  open_parts = open_segment items;
  next_number = c.first + length (segments items);
  maps = broken_in (all_rows c items);
  open_time = begun (time_after (c.start * 1000) (segments items)) (open_segment items);
  end_time = end_time items;
  pending = (told items).pending;
  restart = (told items).restart;
  discontinuity = broken_in (gone (window_limit c) (all_rows c items));
  last = last_place (numbered_parts c.first 0 (parts items));
  ended = ended items;
}

abbrev pub next_start_by : List Part → Option ℕ → ℕ → ℕ
next_start_by [] restart time = restarted restart time
next_start_by (p ∷ ps) restart time = time + duration (p ∷ ps)

-- when the segment of the next part begins, in microseconds since 1970-01-01T00:00:00Z
abbrev pub opens_by : List Part → Option ℕ → ℕ → ℕ
opens_by [] restart time = restarted restart time
opens_by (p ∷ ps) restart time = time

-- when the next part begins, in microseconds since 1970-01-01T00:00:00Z: when the last one ends, or at the time that a break after it set
-- (rule 13)
abbrev pub next_start : Compact → ℕ
next_start k = next_start_by k.open_parts k.restart k.open_time

-- the map number of the segment that the next part belongs to: how many segments are broken so far, and one more if a break is pending
-- (rule 12)
abbrev pub map_now : Compact → ℕ
map_now k = k.maps + one_if (is_broken k.open_parts) + one_if k.pending

-- whether the first of these segments is broken, or `other` if there are none
abbrev pub first_broken : List Row → Bool → Bool
first_broken [] other = other
first_broken (row ∷ rows) other = row.segment.broken

-- whether the open segment with these parts is broken; if there are none, whether the next segment would be
abbrev pub breaks_next : List Part → Bool → Bool
breaks_next [] pending = pending
breaks_next (p ∷ ps) pending = p.after_break

-- the map number in force at the first segment that a full playlist shows, finished or open, or at the next one if there are none: how many broken
-- segments have left the window, and one more if this one is broken (rule 12)
abbrev pub first_map : Compact → ℕ
first_map k = k.discontinuity + one_if (first_broken k.window (breaks_next k.open_parts k.pending))

-- the open segment, if it has a part (rule 10)
abbrev pub open_row : ℕ → ℕ → ℕ → List Part → Option Row
open_row number maps time [] = None
open_row number maps time (p ∷ ps) = Some (row number maps time (p ∷ ps))

abbrev pub unfinished : Compact → Option Row
unfinished k = open_row k.next_number k.maps k.open_time k.open_parts

-- how many segments of the window a delta update skips
abbrev pub skip_count : Compact → ℕ
skip_count k = skipped_in (skip_limit k.settings) (duration k.open_parts) k.window

-- adding or removing a date range changes nothing of what is kept of segments and parts
abbrev pub RangesLaw : Type 0
RangesLaw = (c : Configuration) (items : List Item) (i : Item) → is_about_ranges i ≡ true → compact c (items ++ i ∷ []) ≡ compact c items

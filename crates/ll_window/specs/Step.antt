-- For private contracts: what is kept after one more item, from what was kept before it.
use Rattle.std.specs.Prelude.{ℕ, ◌+◌, List, [], ◌∷◌, ◌++◌, Bool, true, false, Option, Some, None, length}
use Rattle.ll_item.specs.declared.item.Item.{Item}
use Rattle.ll_item.specs.declared.item.Item.TheVariants as item
use Rattle.ll_item.specs.declared.part.Part.{Part}
use Rattle.ll_window.specs.declared.part_position.PartPosition.{PartPosition}
use Rattle.ll_window.specs.Compact.{Compact, opens_by}
use Rattle.ll_window.specs.Rows.{Row, row, one_if, is_broken, broken_in}
use Rattle.ll_item.specs.Told.{finished_last, first_of, kept_part}
use Rattle.ll_window.specs.Segments.{duration}
use Rattle.ll_window.specs.Window.{window_limit, near_limit, gone, window, listed}

-- the position of the next part
abbrev pub next_place : Compact → PartPosition
next_place k = record { number = k.next_number; index = length k.open_parts }

-- without the parts that playlists no longer list, given how long the open segment lasts now
abbrev pub relisted : Compact → Compact
relisted k = record k { window = listed (near_limit k.settings) (duration k.open_parts) k.window }

-- one more part in the open segment, before parts are dropped
abbrev pub grown_by : Compact → Part → Compact
grown_by k p = record k {
  open_time = opens_by k.open_parts k.restart k.open_time;
  open_parts = k.open_parts ++ p ∷ [];
  end_time = k.end_time + p.duration;
  pending = false;
  restart = None;
  last = Some (next_place k);
}

-- one more part in the open segment
abbrev pub with_open : Compact → Part → Compact
with_open k p = relisted (grown_by k p)

-- the segments of the window and then the open one
abbrev pub window_and_open : Compact → List Row
window_and_open k = k.window ++ row k.next_number k.maps k.open_time k.open_parts ∷ []

-- the open segment is finished, before parts are dropped
abbrev pub joined : Compact → Compact
joined k = record k {
  window = window (window_limit k.settings) (window_and_open k);
  open_parts = [];
  next_number = k.next_number + 1;
  maps = k.maps + one_if (is_broken k.open_parts);
  open_time = k.open_time + duration k.open_parts;
  discontinuity = k.discontinuity + broken_in (gone (window_limit k.settings) (window_and_open k));
}

-- the open segment is finished
abbrev pub after_segment : Compact → Compact
after_segment k = relisted (joined k)

-- one more part, which finishes its segment or doesn't
abbrev pub with_part_by : Bool → Compact → Part → Compact
with_part_by true k p = after_segment (with_open k p)
with_part_by false k p = with_open k p

abbrev pub with_part : Compact → Part → Compact
with_part k p = with_part_by p.finish k p

-- a break after the last part
abbrev pub with_break : Compact → Option ℕ → Compact
with_break k time = record k { pending = true; restart = first_of time k.restart }

abbrev pub finished_by : List Part → Compact → Compact
finished_by [] k = k
finished_by (p ∷ ps) k = after_segment (record k { open_parts = finished_last (p ∷ ps) })

-- a finish: the open segment ends with its last part
abbrev pub with_finish : Compact → Compact
with_finish k = finished_by k.open_parts k

abbrev pub ended_by : List Part → Compact → Compact
ended_by [] k = record k { ended = true }
ended_by (p ∷ ps) k = after_segment (record k { ended = true })

-- the end of the rendition
abbrev pub with_end : Compact → Compact
with_end k = ended_by k.open_parts k

abbrev pub with_item : Compact → Item → Compact
with_item k (item.Part part) = with_part k (kept_part k.pending k.restart part)
with_item k (item.Finish rendition) = with_finish k
with_item k (item.Break rendition time) = with_break k time
with_item k (item.Init rendition media) = k
with_item k (item.End rendition) = with_end k
with_item k (item.Range rendition id attributes) = k
with_item k (item.Unrange rendition id) = k

-- How what is kept of a rendition's bytes changes.
use Rattle.std.specs.Prelude.{◌≡◌, ◌<◌, ◌+◌, ◌-◌, ◌^◌, ◌==◌, ◌&&◌, ℕ, zero, suc, Bool, true, false, not, List, [], ◌∷◌, ◌++◌, if◌then◌else◌, filter, length, nat_le}
use Rattle.ll_item.specs.Items.{media_of}
use Rattle.ll_item.specs.declared.item.Item.{Item}
use Rattle.ll_item.specs.declared.item.Item.TheVariants as item
use Rattle.ll_layout.specs.Held.{Each, IsWithin, LayoutValue, other, sections_size}
use Rattle.ll_layout.specs.declared.side.Side.{Side}
use Rattle.ll_layout.specs.declared.stored.KeptPart.{KeptPart}
use Rattle.ll_layout.specs.declared.stored.Extent.{Extent}
use Rattle.ll_layout.specs.declared.stored.StoredSection.{StoredSection}
use Rattle.ll_layout.specs.declared.stored.StoredItem.{StoredItem}
use Rattle.ll_window.specs.Compact.{Compact, first_map, map_now}

abbrev pub has_bytes : Item → Bool
has_bytes i = not (length (media_of i) == 0)

-- the `size` bytes of the item of the number `count`, which come next
abbrev pub next_stored : ℕ → ℕ → LayoutValue → StoredItem
next_stored count size l = record { count = count; place = record { side = l.side; offset = l.end; length = size } }

-- ---- parts

-- the Media Sequence Number of the first segment that a full playlist shows, or of the open one if it shows none
abbrev pub first_shown : Compact → ℕ
first_shown k = k.next_number - length k.window

-- the parts from the first one on whose segment comes no earlier than that of the number `first`
abbrev pub shown_from : ℕ → List KeptPart → List KeptPart
shown_from first [] = []
shown_from first (p ∷ ps) = if nat_le first p.number then p ∷ ps else shown_from first ps

abbrev pub and_part : ℕ → KeptPart → List KeptPart → List KeptPart
and_part zero p parts = parts
and_part (suc n) p parts = parts ++ p ∷ []

-- with a part of `size` bytes, the item of the number `count`, in the segment of this number
abbrev pub with_part : ℕ → ℕ → ℕ → LayoutValue → LayoutValue
with_part number count size l = record l {
  end = l.end + size;
  newer = and_part size (record { number = number; stored = next_stored count size l }) l.newer;
}

-- ---- sections

-- the sections of other map numbers
abbrev pub but_map : ℕ → List StoredSection → List StoredSection
but_map map sections = filter (λ (s : StoredSection). not (s.map == map)) sections

-- one more section, which replaces an earlier one with its map number
abbrev pub and_section : StoredSection → List StoredSection → List StoredSection
and_section section sections = but_map section.map sections ++ section ∷ []

-- with a section of `size` bytes, the item of the number `count`
abbrev pub with_section : ℕ → ℕ → ℕ → LayoutValue → LayoutValue
with_section map count size l = record l {
  end = l.end + size;
  sections = and_section (record { map = map; stored = next_stored count size l }) l.sections;
}

-- the sections in force at a segment that a full playlist shows, or with the map number of one announced now
abbrev pub kept_sections : Compact → List StoredSection → List StoredSection
kept_sections k sections = filter (λ (s : StoredSection). nat_le (first_map k) s.map) sections

-- sections with their bytes one after another from `offset` on
abbrev pub placed : Side → ℕ → List StoredSection → List StoredSection
placed side offset [] = []
placed side offset (s ∷ more) =
    record s { stored = record { count = s.stored.count; place = record { side = side; offset = offset; length = s.stored.place.length } } } ∷ placed side (offset + s.stored.place.length) more

-- ---- both

-- the newer parts without those of segments before `first`, if there are no older ones
abbrev pub newer_from : ℕ → List KeptPart → List KeptPart → List KeptPart
newer_from first [] newer = shown_from first newer
newer_from first (p ∷ ps) newer = newer

-- without what may not be asked for any more
abbrev pub without_gone : LayoutValue → LayoutValue
without_gone l = record l {
  older = shown_from (first_shown l.window) l.older;
  newer = newer_from (first_shown l.window) (shown_from (first_shown l.window) l.older) l.newer;
  sections = kept_sections l.window l.sections;
}

-- with the item of the number `count`, before which the window was `k`
abbrev pub with_item : ℕ → Item → Compact → LayoutValue → LayoutValue
with_item count (item.Part part) k l = with_part k.next_number count (length part.media) l
with_item count (item.Init rendition media) k l = with_section (map_now k) count (length media) l
with_item count (item.Finish rendition) k l = l
with_item count (item.Break rendition time) k l = l
with_item count (item.End rendition) k l = l
with_item count (item.Range rendition id attributes) k l = l
with_item count (item.Unrange rendition id) k l = l

-- with the item of the number `count`, after which the window is `k`: what the window shows no more is left out
abbrev pub added : ℕ → Item → Compact → LayoutValue → LayoutValue
added count i k l = without_gone (with_item count i l.window (record l { window = k }))

-- with a side as the current one, and the sections at its front
abbrev pub now_on : Side → LayoutValue → LayoutValue
now_on side l = record l {
  side = side;
  end = sections_size l.sections;
  end_before = l.end;
  older = l.newer;
  newer = l.older;
  sections = placed side 0 l.sections;
}

-- ready for an item's bytes: if it has some, and none of the other side's may be asked for any more, that side is the current one
abbrev pub room_for : Item → LayoutValue → LayoutValue
room_for i l = if has_bytes i && (length l.older == 0) then now_on (other l.side) l else l

-- with the item of the number `count`, which has come, and after which the window is `k`
abbrev pub laid : ℕ → Item → Compact → LayoutValue → LayoutValue
laid count i k l = added count i k (room_for i l)

-- all bytes that are kept stand within the two files, those of sections on the current side
pub record IsTidy (side : Side) (end end_before : ℕ) (older newer : List KeptPart) (sections : List StoredSection) : Type 0 where
  pub older_within : Each (λ (p : KeptPart). IsWithin (other side) end_before p.stored) older
  pub newer_within : Each (λ (p : KeptPart). IsWithin side end p.stored) newer
  pub sections_within : Each (λ (s : StoredSection). IsWithin side end s.stored) sections

-- The bytes that are kept of a rendition for requests: of segments, parts and Media Initialization Sections.
use Rattle.std.specs.Prelude.{ℕ, ◌-◌, List, [], ◌∷◌, ◌++◌, Option, Some, None, drop, if◌then◌else◌, length, nat_le, option_and_then, option_map, slice_get}
use Rattle.std.specs.List.{concat}
use Rattle.ll_settings.specs.Settings.{Configuration}
use Rattle.ll_item.specs.declared.item.Item.{Item}
use Rattle.ll_window.specs.Compact.{Compact, compact}
use Rattle.ll_store.specs.Parts.{open_bytes, segment_bytes}
use Rattle.ll_store.specs.declared.segment.Section.{Section}
use Rattle.ll_store.specs.Sections.{kept_sections, section_of, sections}
use Rattle.ll_item.specs.declared.what.What.{What}
use Rattle.ll_item.specs.declared.what.What.TheVariants as what

-- what is kept of the bytes of all items of a rendition
pub record StoreValue : Type 0 where
  -- the bytes of each part of each segment of the window
  pub window : List (List (List ℕ))
  -- the bytes of each part of the open segment
  pub unfinished : List (List ℕ)
  pub sections : List Section

-- the last `n` elements, or all if there are fewer
abbrev pub last_of : {A : Type 0} → ℕ → List A → List A
last_of n xs = drop (length xs - n) xs

abbrev pub store : Configuration → List Item → StoreValue
store c items = record {
  window = last_of (length (compact c items).window) (segment_bytes items);
  unfinished = open_bytes items;
  sections = kept_sections (compact c items) (sections c items);
}

-- the Media Sequence Number of the window's first segment
abbrev pub first_shown : Compact → ℕ
first_shown k = k.next_number - length k.window

-- the place in the window of the segment with this Media Sequence Number, or the place that it would have after the others; none before the window
abbrev pub place_in : Compact → ℕ → Option ℕ
place_in k number = if nat_le (first_shown k) number then Some (number - first_shown k) else None

-- the bytes of the part with this index in the segment at this place
abbrev pub part_at : List (List (List ℕ)) → ℕ → ℕ → Option (List ℕ)
part_at segments place index = option_and_then (λ parts. slice_get parts index) (slice_get segments place)

-- The media that is there: a finished segment of the window; a part of one of these or of the open segment; a section that is in force at one of these,
-- or has the map number of one announced now (rule 31).
abbrev pub media_in : Compact → StoreValue → What → Option (List ℕ)
media_in k s what.Playlist = None
media_in k s (what.Segment number) = option_and_then (λ place. option_map concat (slice_get s.window place)) (place_in k number)
media_in k s (what.Part number index) = option_and_then (λ place. part_at (s.window ++ s.unfinished ∷ []) place index) (place_in k number)
media_in k s (what.Init number) = section_of number s.sections

-- the media that is there after all items of a rendition
abbrev pub media : Configuration → List Item → What → Option (List ℕ)
media c items asked = media_in (compact c items) (store c items) asked

-- The bytes of the parts of a rendition, grouped by segments.
use Rattle.std.specs.Prelude.{ℕ, ◌+◌, List, [], ◌∷◌, drop, length, take}
use Rattle.ll_item.specs.declared.item.Item.{Item}
use Rattle.ll_item.specs.declared.item.Item.TheVariants as item
use Rattle.ll_item.specs.declared.part.Part.{Part}
use Rattle.ll_window.specs.Segments.{segments}

abbrev pub before_parts : Item → List (List ℕ) → List (List ℕ)
before_parts (item.Part part) parts = part.media ∷ parts
before_parts (item.Init rendition media) parts = parts
before_parts (item.Finish rendition) parts = parts
before_parts (item.Break rendition time) parts = parts
before_parts (item.End rendition) parts = parts
before_parts (item.Range rendition id attributes) parts = parts
before_parts (item.Unrange rendition id) parts = parts

-- the bytes of each part
abbrev pub part_bytes : List Item → List (List ℕ)
part_bytes [] = []
part_bytes (i ∷ items) = before_parts i (part_bytes items)

-- the bytes in groups, one for each of these segments, with as many elements as the segment has parts
abbrev pub grouped : List (List Part) → List (List ℕ) → List (List (List ℕ))
grouped [] bytes = []
grouped (segment ∷ segments) bytes = take (length segment) bytes ∷ grouped segments (drop (length segment) bytes)

-- how many parts these segments have
abbrev pub parts_in : List (List Part) → ℕ
parts_in [] = 0
parts_in (segment ∷ segments) = length segment + parts_in segments

-- the bytes of the parts of each finished segment
abbrev pub segment_bytes : List Item → List (List (List ℕ))
segment_bytes items = grouped (segments items) (part_bytes items)

-- the bytes of the parts of the open segment
abbrev pub open_bytes : List Item → List (List ℕ)
open_bytes items = drop (parts_in (segments items)) (part_bytes items)

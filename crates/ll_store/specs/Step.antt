-- The bytes that are kept after one more item.
use Rattle.std.specs.Prelude.{ℕ, List, [], ◌∷◌, ◌++◌, Bool, true, false, length}
use Rattle.ll_item.specs.declared.item.Item.{Item}
use Rattle.ll_item.specs.declared.item.Item.TheVariants as item
use Rattle.ll_window.specs.Compact.{Compact}
use Rattle.ll_store.specs.declared.brought.Brought.{Brought}
use Rattle.ll_store.specs.declared.brought.Brought.TheVariants as brought
use Rattle.ll_store.specs.Media.{StoreValue, last_of}
use Rattle.ll_store.specs.Sections.{kept_sections, with_section}

-- the bytes of a segment, if it has a part
abbrev pub closed : List (List ℕ) → List (List (List ℕ))
closed [] = []
closed (bytes ∷ more) = (bytes ∷ more) ∷ []

-- the segment that a part finishes, if it does
abbrev pub finished_by : Bool → List (List ℕ) → List (List (List ℕ))
finished_by true parts = parts ∷ []
finished_by false parts = []

abbrev pub left_by : Bool → List (List ℕ) → List (List ℕ)
left_by true parts = []
left_by false parts = parts

-- what an item adds
abbrev pub brought_by : Item → Brought
brought_by (item.Part part) = brought.Part part.media part.finish
brought_by (item.Init rendition media) = brought.Section media
brought_by (item.Finish rendition) = brought.Closes
brought_by (item.End rendition) = brought.Closes
brought_by (item.Break rendition time) = brought.Nothing
brought_by (item.Range rendition id attributes) = brought.Nothing
brought_by (item.Unrange rendition id) = brought.Nothing

-- with what one more item adds, before anything is dropped; a section gets this map number
abbrev pub grown : ℕ → StoreValue → Brought → StoreValue
grown map s (brought.Part media finish) = record s {
  window = s.window ++ finished_by finish (s.unfinished ++ media ∷ []);
  unfinished = left_by finish (s.unfinished ++ media ∷ []);
}
grown map s (brought.Section media) = record s { sections = with_section map media s.sections }
grown map s brought.Closes = record s { window = s.window ++ closed s.unfinished; unfinished = [] }
grown map s brought.Nothing = s

-- without what has left the window
abbrev pub trimmed : Compact → StoreValue → StoreValue
trimmed k s = record { window = last_of (length k.window) s.window; unfinished = s.unfinished; sections = kept_sections k s.sections }

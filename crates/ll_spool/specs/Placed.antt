-- Which bytes a start reads for which items.
use Rattle.std.specs.Prelude.{◌≡◌, ◌≤◌, ◌⊎◌, ◌+◌, ⊤, ℕ, List, [], ◌∷◌, ◌++◌, None, Ok, Option, Some, flat_map, length, map, slice_get, take}
use Rattle.std.specs.List.{All}
use Rattle.ll_entry.specs.Leads.{with_end}
use Rattle.ll_item.specs.Items.{media_of}
use Rattle.ll_item.specs.declared.item.Item.{Item}
use Rattle.ll_layout.specs.Held.{IsHeld, LayoutValue, stored}
use Rattle.ll_layout.specs.declared.stored.Extent.{Extent}
use Rattle.ll_layout.specs.declared.stored.StoredItem.{StoredItem}
use Rattle.ll_settings.specs.Settings.{Configuration}
use Rattle.ll_spool.specs.Files.{AreStored, Files, IsReadAt}
use Rattle.ll_spool.specs.Layouts.{layouts_after}
use Rattle.ll_spool.specs.Restored.{IsPublished, IsPublishing, Left, in_front, nth_bytes, whole_text}
use Rattle.ll_spool.specs.Spooled.{items_from, lines_in, spooled_in}
use Rattle.ll_spool.specs.declared.placed.PlacedItem.{PlacedItem}

-- these bytes of a rendition
abbrev pub placed_in : ℕ → List StoredItem → List PlacedItem
placed_in rendition all = map (λ s. record { rendition = rendition; stored = s }) all

-- all bytes that are kept of the renditions from `r` on
abbrev pub placed_from : ℕ → List LayoutValue → List PlacedItem
placed_from r [] = []
placed_from r (l ∷ layouts) = placed_in r (stored l) ++ placed_from (r + 1) layouts

-- files that are known have an item's bytes, all of them, at this place
abbrev pub HasBytesAt : Option Files → ℕ → Extent → List ℕ → Type 0
HasBytesAt files rendition place bytes = IsReadAt files rendition place bytes × (place.length ≡ length bytes)

-- the item of the number `count` has the bytes at the place `next` of all, and then the next place comes; or these aren't its bytes
abbrev pub IsRead : ℕ → Item → List PlacedItem → ℕ → ℕ → Option Files → Type 0
IsRead count item all next then files =
    (then ≡ next)
    ⊎ ((then ≡ next + 1) × ((p : PlacedItem) × (slice_get all next ≡ Some p) × (p.stored.count ≡ count) × HasBytesAt files p.rendition p.stored.place (media_of item)))

-- files that are known have at this place just the bytes of its item, one of these
abbrev pub IsGiven : Option Files → List Item → PlacedItem → Type 0
IsGiven None items p = ⊤
IsGiven (Some files) items p = (1 ≤ p.stored.count) × (p.stored.count ≤ length items) × IsHeld (files p.rendition) (nth_bytes items) p.stored

-- the items of these lines are published, and have all these bytes
pub record IsGivenTo (c : Configuration) (lines : List (List ℕ)) (old new : Option (List Item)) (count : ℕ) (placed : List PlacedItem) (files : Option Files) : Type 0 where
  pub published : IsPublished (items_from c 1 lines) old new count
  pub given : All (IsGiven files published.items) placed

-- the items of a text's lines are published, the layouts are those after them, and they have the bytes that are kept
pub record IsPublishedFrom (c : Configuration) (text : List ℕ) (old new : Option (List Item)) (count : ℕ) (layouts : List LayoutValue) (files : Option Files) : Type 0 where
  pub published : IsPublished (items_from c 1 (lines_in text)) old new count
  pub laid : layouts ≡ layouts_after c published.items
  pub held : (more : List Item) → AreStored (nth_bytes (published.items ++ more)) layouts files

-- a text has `n` bytes after its whole lines
pub record HasRest (text : List ℕ) (n : ℕ) : Type 0 where
  pub rest : List ℕ
  pub is : text ≡ whole_text text ++ rest
  pub long : length rest ≡ n

-- ---- while lines are read

-- the items of the lines that were read are published, with the first `next` of these bytes
pub record IsGiving (c : Configuration) (all : List (List ℕ)) (left : Left) (old new : Option (List Item)) (placed : List PlacedItem) (next : ℕ) (files : Option Files) : Type 0 where
  pub publishing : IsPublishing c all left old new
  pub given : All (IsGiven files publishing.items) (take next placed)

-- the lines that were read, with their ends, are what is before the bytes that are left
pub record IsCut (text : List ℕ) (left : Left) : Type 0 where
  pub done : List (List ℕ)
  pub lines : lines_in text ≡ done ++ left.lines
  pub is : text ≡ flat_map with_end done ++ left.text

-- the layouts are those after these items and that of one line more
pub record IsFollowed (c : Configuration) (count : ℕ) (line : List ℕ) (items : List Item) (layouts : List LayoutValue) : Type 0 where
  pub item : Item
  pub is : spooled_in c count line ≡ Some item
  pub laid : layouts ≡ layouts_after c (items ++ item ∷ [])

-- the layouts are those after the items of these lines
pub record IsSurveyed (c : Configuration) (lines : List (List ℕ)) (layouts : List LayoutValue) : Type 0 where
  pub spelled : List Item
  pub are : items_from c 1 lines ≡ Ok spelled
  pub laid : layouts ≡ layouts_after c spelled

-- the layouts are those after the items of the lines that were read
pub record IsSurveying (c : Configuration) (all : List (List ℕ)) (left : Left) (layouts : List LayoutValue) : Type 0 where
  pub spelled : List Item
  pub are : items_from c 1 all ≡ in_front spelled (items_from c (left.count + 1) left.lines)
  pub number : length spelled ≡ left.count
  pub laid : layouts ≡ layouts_after c spelled

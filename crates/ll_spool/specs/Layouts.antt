-- Where the bytes of a channel's items are kept, from the whole list of its items.
use Rattle.std.specs.Prelude.{◌≡◌, ℕ, ◌+◌, ◌==◌, List, [], ◌∷◌, ◌++◌, filter}
use Rattle.ll_item.specs.Items.{rendition_of}
use Rattle.ll_item.specs.declared.item.Item.{Item}
use Rattle.ll_layout.specs.Held.{LayoutValue, begun}
use Rattle.ll_layout.specs.Moves.{laid}
use Rattle.ll_settings.specs.Settings.{Configuration}
use Rattle.ll_window.specs.Compact.{compact}

-- an item, and its number in its channel
pub record Numbered : Type 0 where
  pub number : ℕ
  pub item : Item

-- these items, the first of which has the number `n`
abbrev pub numbered_from : ℕ → List Item → List Numbered
numbered_from n [] = []
numbered_from n (item ∷ items) = record { number = n; item = item } ∷ numbered_from (n + 1) items

-- those of a rendition among a channel's items
abbrev pub numbered_own : ℕ → List Item → List Numbered
numbered_own rendition items = filter (λ (x : Numbered). rendition_of x.item == rendition) (numbered_from 1 items)

-- what the layout of a rendition is after these items more: one after another is laid to it; `before` are the rendition's items so far
abbrev pub layout_from : Configuration → List Item → LayoutValue → List Numbered → LayoutValue
layout_from c before l [] = l
layout_from c before l (x ∷ more) = layout_from c (before ++ x.item ∷ []) (laid x.number x.item (compact c (before ++ x.item ∷ [])) l) more

-- the layout of a rendition after these items of its channel
abbrev pub layout_after : Configuration → ℕ → List Item → LayoutValue
layout_after c rendition items = layout_from c [] (begun c) (numbered_own rendition items)

-- those of the renditions from `r` on, which have these names
abbrev pub layouts_from : Configuration → ℕ → List (List ℕ) → List Item → List LayoutValue
layouts_from c r [] items = []
layouts_from c r (name ∷ names) items = layout_after c r items ∷ layouts_from c (r + 1) names items

-- the layouts of a channel's renditions after its items
abbrev pub layouts_after : Configuration → List Item → List LayoutValue
layouts_after c items = layouts_from c 0 c.renditions items

-- an item is laid to its rendition's layout, and the window is what is kept of one item more
pub record IsLaid (count : ℕ) (item : Item) (old new : LayoutValue) : Type 0 where
  pub is : new ≡ laid count item new.window old
  pub window : (items : List Item) → old.window ≡ compact old.window.settings items → new.window ≡ compact old.window.settings (items ++ item ∷ [])

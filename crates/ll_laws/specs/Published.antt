-- Lists of items in which each is allowed after those before it.
use Rattle.std.specs.Prelude.{◌≡◌, List, [], ◌∷◌, ◌++◌, None, Ok, true}
use Rattle.std.specs.Str.{is_utf8}
use Rattle.ll_attr.specs.Attributes.{attributes_in}
use Rattle.ll_attr.specs.Attributes as attributes
use Rattle.ll_attr.specs.declared.attributes.Attribute.{Attribute}
use Rattle.ll_item.specs.Items.{rendition_of}
use Rattle.ll_settings.specs.Settings.{Configuration}
use Rattle.ll_item.specs.declared.item.Item.{Item}
use Rattle.ll_item.specs.declared.item.Item.TheVariants as item
use Rattle.ll_window.specs.Refusal as window
use Rattle.ll_window.specs.Segments.{own}
use Rattle.ll_range.specs.Announced as range
use Rattle.ll_item.specs.declared.skip_kind.SkipKind.{SkipKind}
use Rattle.ll_item.specs.declared.skip_kind.SkipKind.TheVariants.{Yes, V2}

-- each item is allowed after the items of its rendition before it, in `before` and in this list
abbrev pub AreAccepted : Configuration → List Item → List Item → Type 0
AreAccepted c before [] = Unit
AreAccepted c before (item ∷ items) = (window.refusal c (own (rendition_of item) before) item ≡ None) × AreAccepted c (before ++ item ∷ []) items

-- each item is allowed after the items of its rendition before it, as far as date ranges are concerned
abbrev pub AreAnnounced : Configuration → List Item → List Item → Type 0
AreAnnounced c before [] = Unit
AreAnnounced c before (item ∷ items) = (range.refusal c (own (rendition_of item) before) item ≡ None) × AreAnnounced c (before ++ item ∷ []) items

-- Each item is allowed after those of its rendition before it; if a delta update of this kind skips date ranges, also as far as date
-- ranges are concerned.
abbrev pub AreAcceptedFor : SkipKind → Configuration → List Item → Type 0
AreAcceptedFor Yes c items = AreAccepted c [] items
AreAcceptedFor V2 c items = AreAccepted c [] items × AreAnnounced c [] items

-- the attributes of a date range can be read back: they are UTF-8, and no two have the same name
pub record IsSpelled (list : List Attribute) : Type 0 where
  pub read : attributes_in (attributes.spelling list) ≡ Ok list
  pub utf8 : is_utf8 (attributes.spelling list) ≡ true

-- the texts of an item can be read back
abbrev pub HasTexts : Item → Type 0
HasTexts (item.Range rendition id attributes) = (is_utf8 id ≡ true) × IsSpelled attributes
HasTexts (item.Unrange rendition id) = is_utf8 id ≡ true
HasTexts (item.Part part) = Unit
HasTexts (item.Finish rendition) = Unit
HasTexts (item.Break rendition time) = Unit
HasTexts (item.Init rendition media) = Unit
HasTexts (item.End rendition) = Unit

-- each item is allowed after the items of its rendition before it, also as far as date ranges are concerned, and its texts can be read back
abbrev pub ArePublished : Configuration → List Item → List Item → Type 0
ArePublished c before [] = Unit
ArePublished c before (item ∷ items) =
    (window.refusal c (own (rendition_of item) before) item ≡ None)
    × (range.refusal c (own (rendition_of item) before) item ≡ None)
    × HasTexts item
    × ArePublished c (before ++ item ∷ []) items

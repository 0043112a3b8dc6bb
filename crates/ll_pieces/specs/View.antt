-- Views: what a playlist is written of.
use Rattle.std.specs.Prelude.{◌≡◌, ℕ, ◌+◌, zero, suc, List, [], ◌∷◌, ◌++◌, Option, None, length}
use Rattle.ll_settings.specs.Settings.{Configuration}
use Rattle.ll_item.specs.declared.item.Item.{Item}
use Rattle.ll_item.specs.declared.skip_kind.SkipKind.{SkipKind}
use Rattle.ll_window.specs.Compact.{skip_count}
use Rattle.ll_window.specs.Segments.{own}
use Rattle.ll_rendition.specs.Kept.{kept}
use Rattle.ll_rendition.specs.declared.rendition.Rendition.{Rendition}

-- what is kept of all items of a channel for each of these renditions, the first of which has the index `rendition`
abbrev pub renditions_from : Configuration → List Item → ℕ → List (List ℕ) → List Rendition
renditions_from c items rendition [] = []
renditions_from c items rendition (name ∷ more) = kept c (own rendition items) ∷ renditions_from c items (rendition + 1) more

-- what is kept of all items of a channel for each of its renditions
abbrev pub renditions : Configuration → List Item → List Rendition
renditions c items = renditions_from c items 0 c.renditions

-- `new` is what is kept of some items and this one, if `old` is what is kept of the items before it
abbrev pub GoOn : List Rendition → List Rendition → Item → Type 0
GoOn old new i = (c : Configuration) (before : List Item) → old ≡ renditions c before → new ≡ renditions c (before ++ i ∷ [])

-- what is kept of all renditions of a channel, and the index of the one that is asked for
pub record Seen : Type 0 where
  pub settings : Configuration
  pub renditions : List Rendition
  pub rendition : ℕ
  -- how many items the channel has accepted
  pub count : ℕ

-- the view of a rendition after these items of its channel (rule 22)
abbrev pub seen : Configuration → List Item → ℕ → Seen
seen c items rendition = record { settings = c; renditions = renditions c items; rendition = rendition; count = length items }

-- what is kept of the rendition at this place, or `none` if there is none
abbrev pub at_place : Rendition → List Rendition → ℕ → Rendition
at_place none [] place = none
at_place none (k ∷ ks) zero = k
at_place none (k ∷ ks) (suc place) = at_place none ks place

-- what is kept of the rendition that is asked for
abbrev pub asked : Seen → Rendition
asked v = at_place (kept v.settings []) v.renditions v.rendition

-- a view, and the kind of delta update that is asked for, none for the full playlist
pub record Paged : Type 0 where
  pub seen : Seen
  pub form : Option SkipKind

abbrev pub unless_none : ℕ → Option SkipKind → Option SkipKind
unless_none zero form = None
unless_none (suc n) form = form

-- The kind of delta update that the text is, none if it is a full playlist, also because an update was asked for and no segment is skipped.
abbrev pub update_in : Paged → Option SkipKind
update_in p = unless_none (skip_count (asked p.seen).window) p.form

-- The value of a presentation: what is kept of a channel's items.
use Rattle.std.specs.Prelude.{◌≡◌, ℕ, List, length}
use Rattle.ll_settings.specs.Settings.{Configuration}
use Rattle.ll_item.specs.declared.item.Item.{Item}
use Rattle.ll_page.specs.Page.{Moment}
use Rattle.ll_pieces.specs.View.{renditions}
use Rattle.ll_rendition.specs.declared.rendition.Rendition.{Rendition}
use Rattle.ll_store.specs.Media.{StoreValue}
use Rattle.ll_store.specs.Stores.{stores}

pub record PresentationValue : Type 0 where
  pub settings : Configuration
  -- what is kept of each rendition, in the order of the settings
  pub renditions : List Rendition
  -- the bytes that each of them has for players
  pub stores : List StoreValue
  -- how many items were accepted
  pub count : ℕ

-- the presentation after all items of a channel
abbrev pub presentation_of : Configuration → List Item → PresentationValue
presentation_of c items = record { settings = c; renditions = renditions c items; stores = stores c items; count = length items }

-- a presentation shows `items`: it is what is kept of them
abbrev pub Shows : PresentationValue → List Item → Type 0
Shows p items = p ≡ presentation_of p.settings items

-- the channel as it is now
abbrev pub moment : PresentationValue → Moment
moment p = record { settings = p.settings; renditions = p.renditions; count = p.count }

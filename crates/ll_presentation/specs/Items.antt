-- One more item, by what is kept of those before it.
use Rattle.std.specs.Prelude.{◌≡◌, ◌+◌, ◌++◌, List, [], ◌∷◌, Option, length, slice_get}
use Rattle.ll_item.specs.Items.{rendition_of}
use Rattle.ll_item.specs.declared.item.Item.{Item}
use Rattle.ll_page_cache.specs.Pages.{PagesOf}
use Rattle.ll_pieces.specs.View.{GoOn}
use Rattle.ll_rendition.specs.Refusal.{refusal_at}
use Rattle.ll_rendition.specs.declared.fault.PublishFault.{PublishFault}
use Rattle.ll_presentation.specs.PresentationValue.{PresentationValue, Shows}

-- the first rule that refuses an item
abbrev pub refusal_in : PresentationValue → Item → Option PublishFault
refusal_in p i = refusal_at (slice_get p.renditions (rendition_of i)) i

-- `new` is what is kept of some items and this one, if `old` is what is kept of the items before it
pub record HasTaken (old new : PresentationValue) (i : Item) : Type 0 where
  pub settings : new.settings ≡ old.settings
  pub count : new.count ≡ old.count + 1
  pub shows : (before : List Item) → Shows old before → Shows new (before ++ i ∷ [])

-- these are the pages of the item's rendition after it
pub record IsPrepared (p : PresentationValue) (i : Item) (pages : PagesOf) : Type 0 where
  pub goes_on : GoOn p.renditions pages.moment.renditions i
  pub many : length pages.moment.renditions ≡ length p.renditions
  pub moment : pages.moment ≡ record { settings = p.settings; renditions = pages.moment.renditions; count = p.count + 1 }
  pub rendition : pages.rendition ≡ rendition_of i

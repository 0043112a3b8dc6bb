-- The bytes that are kept of all renditions of a channel.
use Rattle.std.specs.Prelude.{ℕ, ◌+◌, List, [], ◌∷◌, Bool, true, Option, Some, None, map, slice_get, slice_set}
use Rattle.std.specs.Option.{option_map_or}
use Rattle.ll_settings.specs.Settings.{Configuration}
use Rattle.ll_item.specs.declared.item.Item.{Item}
use Rattle.ll_rendition.specs.declared.rendition.Rendition.{Rendition}
use Rattle.ll_window.specs.Compact.{map_now}
use Rattle.ll_window.specs.Segments.{own}
use Rattle.ll_store.specs.Media.{StoreValue, media_in, store}
use Rattle.ll_store.specs.Step.{grown, trimmed}
use Rattle.ll_store.specs.Stock.{Stock}
use Rattle.ll_store.specs.declared.arrival.Arrival.{Arrival}
use Rattle.ll_item.specs.declared.what.What.{What}

-- the stores after all items of a channel, one for each of these renditions, the first of which has the index `rendition`
abbrev pub stores_from : Configuration → List Item → ℕ → List (List ℕ) → List StoreValue
stores_from c items rendition [] = []
stores_from c items rendition (name ∷ more) = store c (own rendition items) ∷ stores_from c items (rendition + 1) more

-- the stores after all items of a channel, one for each of its renditions
abbrev pub stores : Configuration → List Item → List StoreValue
stores c items = stores_from c items 0 c.renditions

-- what a store keeps
abbrev pub kept_in : Stock → StoreValue
kept_in s = s.kept

abbrev pub all_kept : List Stock → List StoreValue
all_kept stocks = map kept_in stocks

-- whether the store at this place has memory for what one more item adds; true if there is none
abbrev pub is_ready_at : ℕ → List Stock → Bool
is_ready_at place stocks = option_map_or (λ (s : Stock). s.ready) (slice_get stocks place) true

-- the map number of a section that is announced now in the rendition at this place
abbrev pub map_at : ℕ → List Rendition → ℕ
map_at place renditions = option_map_or (λ (k : Rendition). map_now k.window) (slice_get renditions place) 0

abbrev pub with_by : Arrival → Option Rendition → Option StoreValue → List StoreValue → List StoreValue
with_by a None s all = all
with_by a (Some k) None all = all
with_by a (Some k) (Some s) all = slice_set all a.rendition (trimmed k.window (grown a.map s a.brought))

-- the stores with what one more item adds; `renditions` is what is kept after it
abbrev pub stores_with : Arrival → List Rendition → List StoreValue → List StoreValue
stores_with a renditions all = with_by a (slice_get renditions a.rendition) (slice_get all a.rendition) all

abbrev pub media_by : What → Option Rendition → Option StoreValue → Option (List ℕ)
media_by what None s = None
media_by what (Some k) None = None
media_by what (Some k) (Some s) = media_in k.window s what

-- the media that is there in the rendition with this index
abbrev pub media_at : List Rendition → List StoreValue → ℕ → What → Option (List ℕ)
media_at renditions all rendition what = media_by what (slice_get renditions rendition) (slice_get all rendition)

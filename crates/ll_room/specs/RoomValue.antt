-- The value of a room: what is kept of a channel in place of its events.
use Rattle.std.specs.Prelude.{◌≡◌, ℕ, List, [], ◌∷◌, Bool, false, filter, length, map, not, ◌==◌}
use Rattle.std.specs.List.{list_any}
use Rattle.ll_settings.specs.Settings.{Configuration}
use Rattle.ll_pieces.specs.View.{renditions}
use Rattle.ll_presentation.specs.PresentationValue.{PresentationValue}
use Rattle.ll_rendition.specs.declared.rendition.Rendition.{Rendition}
use Rattle.ll_store.specs.Media.{StoreValue}
use Rattle.ll_store.specs.Stores.{stores}
use Rattle.ll_verdict.specs.Waiting.{ticket_in}
use Rattle.ll_verdict.specs.Events.{Event}
use Rattle.ll_verdict.specs.State.{State, state_of}
use Rattle.ll_verdict.specs.declared.entry.Slot.{Slot}

pub record RoomValue : Type 0 where
  -- the number of the room
  pub channel : ℕ
  pub settings : Configuration
  -- what is kept of each rendition, in the order of the settings
  pub renditions : List Rendition
  -- the bytes that each of them has for players
  pub stores : List StoreValue
  -- how many items were accepted
  pub count : ℕ
  -- milliseconds
  pub time : ℕ
  -- how many requests there were
  pub asks : ℕ
  -- the open requests, in order of asking
  pub slots : List Slot
  -- how many events there were
  pub events : ℕ

-- the room of number `channel` for the state `s`
abbrev pub room_value : ℕ → Configuration → State → RoomValue
room_value channel c s = record {
  channel = channel;
  settings = c;
  renditions = renditions c s.items;
  stores = stores c s.items;
  count = length s.items;
  time = s.time;
  asks = s.asks;
  slots = s.slots;
  events = s.events;
}

-- what is kept of the channel's items
abbrev pub presentation_in : RoomValue → PresentationValue
presentation_in h = record { settings = h.settings; renditions = h.renditions; stores = h.stores; count = h.count }

-- the room with `p` as what is kept of its channel's items
abbrev pub with_presentation : RoomValue → PresentationValue → RoomValue
with_presentation h p = record h { settings = p.settings; renditions = p.renditions; stores = p.stores; count = p.count }

-- a room stands for `events`: it is what is kept of them
abbrev pub Stands : RoomValue → List Event → Type 0
Stands h events = h ≡ room_value h.channel h.settings (state_of h.settings events)

-- the room keeps its number and its settings
pub record IsSame (old new : RoomValue) : Type 0 where
  pub channel : new.channel ≡ old.channel
  pub settings : new.settings ≡ old.settings

-- the tickets of the open requests, in order of asking
abbrev pub tickets : RoomValue → List ℕ
tickets h = map ticket_in h.slots

-- `list` without `ticket`
abbrev pub less : ℕ → List ℕ → List ℕ
less ticket list = filter (λ n. not (n == ticket)) list

-- whether `ticket` is in `list`
abbrev pub among : ℕ → List ℕ → Bool
among ticket list = list_any (λ n. n == ticket) list

-- no number occurs twice
abbrev pub AreDistinct : List ℕ → Type 0
AreDistinct [] = Unit
AreDistinct (n ∷ more) = (among n more ≡ false) × AreDistinct more

-- The events of one channel, in the order in which they happened, and what follows from them.
use Rattle.std.specs.Prelude.{ℕ, ◌+◌, List, [], ◌∷◌, ◌++◌, fold, is_none, max, if◌then◌else◌}
use Rattle.ll_settings.specs.Settings.{Configuration}
use Rattle.ll_item.specs.declared.item.Item.{Item}
use Rattle.ll_directive.specs.Targets.{WantValue}
use Rattle.ll_verdict.specs.Accepted.{refusal}

pub data Event : Type 0 where
  -- a publisher announced an item
  Publish : Item → Event
  -- a player asked for a playlist or media; requests are numbered from 1
  Ask : WantValue → Event
  -- the reply to the request of this number was handed out
  Collect : ℕ → Event
  -- the request of this number was closed
  Close : ℕ → Event
  -- the clock showed this many milliseconds
  Clock : ℕ → Event

-- an item that is refused is no item of the channel (rule 23)
abbrev pub taken : Configuration → List Item → Event → List Item
taken c items (Publish item) = if is_none (refusal c items item) then items ++ item ∷ [] else items
taken c items (Ask want) = items
taken c items (Collect ticket) = items
taken c items (Close ticket) = items
taken c items (Clock ms) = items

-- all items that the channel has accepted
abbrev pub items : Configuration → List Event → List Item
items c events = fold (taken c) [] events

abbrev pub later : ℕ → Event → ℕ
later time (Publish item) = time
later time (Ask want) = time
later time (Collect ticket) = time
later time (Close ticket) = time
later time (Clock ms) = max time ms

-- the channel's time in milliseconds: the largest reading, 0 before the first one (rule 28)
abbrev pub time : List Event → ℕ
time events = fold later 0 events

abbrev pub counted : ℕ → Event → ℕ
counted asks (Publish item) = asks
counted asks (Ask want) = asks + 1
counted asks (Collect ticket) = asks
counted asks (Close ticket) = asks
counted asks (Clock ms) = asks

-- how many requests there were
abbrev pub asks : List Event → ℕ
asks events = fold counted 0 events

-- an event, and all events before it
pub record Step : Type 0 where
  pub before : List Event
  pub event : Event

-- all events up to and with that of a step
abbrev pub until : Step → List Event
until s = s.before ++ s.event ∷ []

abbrev pub steps_from : List Event → List Event → List Step
steps_from before [] = []
steps_from before (e ∷ es) = (record { before = before; event = e }) ∷ steps_from (before ++ e ∷ []) es

-- each event with those before it
abbrev pub steps : List Event → List Step
steps events = steps_from [] events

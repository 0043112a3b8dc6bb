-- The results of one locked section of a channel, and the channel after it.
use Rattle.std.specs.Prelude.{◌≡◌, ◌≤◌, ◌<◌, ℕ, ◌+◌, ◌||◌, Bool, List, [], ◌∷◌, ◌++◌, Some, find, is_some, option_map}
use Rattle.ll_verdict.specs.Waiting.{entry_in, found, is_ready_at}
use Rattle.ll_directive.specs.Targets.{WantValue}
use Rattle.ll_settings.specs.Settings.{Configuration}
use Rattle.ll_item.specs.declared.item.Item.{Item}
use Rattle.ll_record.specs.Recording.{IsRecorded, Recording, is_record_full}
use Rattle.ll_verdict.specs.declared.fault.ClockFault.{ClockFault}
use Rattle.ll_verdict.specs.declared.fault.AskFault.{AskFault}
use Rattle.ll_room.specs.declared.stamped.Stamp.TheVariants as stamp
use Rattle.ll_verdict.specs.Events.{Event, Clock, Close, Collect, asks}
use Rattle.ll_verdict.specs.Full.{is_full}
use Rattle.ll_verdict.specs.declared.entry.Entry.{Entry}
use Rattle.ll_verdict.specs.declared.entry.Slot.{Slot}
use Rattle.ll_verdict.specs.declared.reply.Reply.{Reply}
use Rattle.ll_hub_channel.specs.Told.{IsAnswered, IsAskRefused, IsDecided, IsHeld, IsReadingRefused, IsRefused}
use Rattle.ll_hub_channel.specs.declared.channel.AtOnce.{AtOnce}
use Rattle.ll_hub_channel.specs.declared.channel.AtOnce.TheVariants.{Now, Held}
use Rattle.ll_hub_channel.specs.declared.channel.Tried.{Tried}
use Rattle.ll_hub_channel.specs.declared.channel.Tried.TheVariants as tried
use Rattle.ll_hub_channel.specs.declared.fault.HubFault.{HubFault}
use Rattle.ll_hub_channel.specs.declared.fault.HubFault.TheVariants.{UnknownChannel, WentBack, Room, Stranger, Short, Memory}
use Rattle.ll_hub_channel.specs.declared.fault.RoomFault.TheVariants as room

-- ---- which channel it is

-- the channel at `place`, of these settings
pub record IsAt (r : Recording) (place : ℕ) (c : Configuration) : Type 0 where
  pub number : r.room.channel ≡ place
  pub settings : r.room.settings ≡ c

-- it has what the caller has seen, too
pub record IsMet (r : Recording) (place : ℕ) (c : Configuration) (seen : ℕ) : Type 0 where
  pub number : r.room.channel ≡ place
  pub settings : r.room.settings ≡ c
  pub later : seen ≤ r.room.count

-- this request is open in the channel at `place`
pub record IsOpenAt (r : Recording) (place : ℕ) (c : Configuration) (entry : Entry) : Type 0 where
  pub number : r.room.channel ≡ place
  pub settings : r.room.settings ≡ c
  pub open_there : found entry.ticket r.room.slots ≡ Some entry

-- its reply is there
abbrev pub IsReady : Recording → Entry → Type 0
IsReady r entry = option_map entry_in (find (is_ready_at entry.ticket) r.room.slots) ≡ Some entry

-- whether the request of this ticket is open, and its reply is there
abbrev pub has_reply : List Slot → ℕ → Bool
has_reply slots ticket = is_some (find (is_ready_at ticket) slots)

-- why a channel isn't the one that the caller knows, with the items that it has seen
abbrev pub IsUnmetBy : Recording → ℕ → Configuration → ℕ → HubFault → Type 0
IsUnmetBy r place c seen UnknownChannel = ⊥
IsUnmetBy r place c seen (WentBack from found) = (from ≡ seen) × (found ≡ r.room.count) × (found < seen)
IsUnmetBy r place c seen (Room other fault) = ⊥
IsUnmetBy r place c seen Stranger = IsAt r place c → ⊥
IsUnmetBy r place c seen Short = ⊥
IsUnmetBy r place c seen Memory = ⊥

-- ---- what is counted

-- the room has accepted no more items and was asked no more than before
pub record IsAsCounted (old new : Recording) : Type 0 where
  pub publishes : new.room.count ≡ old.room.count
  pub asks : new.room.asks ≡ old.room.asks

-- the room has accepted one more item
pub record HasPublished (old new : Recording) : Type 0 where
  pub publishes : new.room.count ≡ old.room.count + 1
  pub asks : new.room.asks ≡ old.room.asks

-- the room was asked once more
pub record HasAsked (old new : Recording) : Type 0 where
  pub publishes : new.room.count ≡ old.room.count
  pub asks : new.room.asks ≡ old.room.asks + 1

-- ---- an item

-- why an item isn't published after these events
abbrev pub IsPublishFaultBy : Recording → ℕ → Configuration → List Event → ℕ → Item → HubFault → Type 0
IsPublishFaultBy r place c events seen item (Room other (room.Publish fault)) = (other ≡ place) × IsRefused c events (is_record_full r) item seen fault
IsPublishFaultBy r place c events seen item fault = ⊥

-- ---- a request

-- the result of a request that is made after these events
abbrev pub IsAskedBy : ℕ → Configuration → List Event → ℕ → WantValue → AtOnce → Type 0
IsAskedBy place c events seen want (Now mark) =
    (mark.room ≡ place) × (mark.stamp ≡ stamp.Ask (asks events + 1) want) × IsAnswered c events want seen (asks events + 1) mark.value
IsAskedBy place c events seen want (Held entry) = IsHeld c events want seen entry

-- whether no request and no reading is taken any more
abbrev pub is_filled : Recording → Bool
is_filled r = is_record_full r || is_full r.room.events

-- a request is refused after a reading, which is recorded
pub record IsUnasked (old new : Recording) (ms : ℕ) (fault : AskFault) : Type 0 where
  pub recorded : (events : List Event) → IsRecorded old events → IsRecorded new (events ++ Clock ms ∷ [])
  pub refused : IsAskRefused (is_filled new) fault

-- why a request isn't made, and what the channel is then
abbrev pub IsAskFaultBy : Recording → Recording → ℕ → ℕ → HubFault → Type 0
IsAskFaultBy old new place ms (Room other (room.Publish fault)) = ⊥
IsAskFaultBy old new place ms (Room other (room.Ask fault)) = (other ≡ place) × IsUnasked old new ms fault
IsAskFaultBy old new place ms (Room other (room.Clock fault)) = (other ≡ place) × (new ≡ old) × IsReadingRefused (is_filled old) ms fault
IsAskFaultBy old new place ms Memory = new ≡ old
IsAskFaultBy old new place ms fault = ⊥

-- ---- a held request

-- its reply is handed out
pub record IsCollected (old new : Recording) (c : Configuration) (entry : Entry) (reply : Reply) : Type 0 where
  pub recorded : (events : List Event) → IsRecorded old events → IsRecorded new (events ++ Collect entry.ticket ∷ [])
  pub decided : (events : List Event) → IsRecorded old events → IsDecided c events entry reply

-- the result of asking for its reply
abbrev pub IsTriedBy : Recording → Recording → ℕ → Configuration → Entry → Tried → Type 0
IsTriedBy old new place c entry (tried.Got mark) = (mark.room ≡ place) × (mark.stamp ≡ stamp.Collect entry.ticket) × IsCollected old new c entry mark.value
IsTriedBy old new place c entry tried.Still = (new ≡ old) × IsOpenAt old place c entry × (IsReady old entry → ⊥)
IsTriedBy old new place c entry tried.Stranger = (new ≡ old) × (IsOpenAt old place c entry → ⊥)

-- it is closed
pub record IsClosed (old new : Recording) (place : ℕ) (c : Configuration) (entry : Entry) : Type 0 where
  pub open_there : IsOpenAt old place c entry
  pub recorded : (events : List Event) → IsRecorded old events → IsRecorded new (events ++ Close entry.ticket ∷ [])

-- it isn't open there, and nothing has changed
pub record IsNotOpen (old new : Recording) (place : ℕ) (c : Configuration) (entry : Entry) : Type 0 where
  pub stranger : IsOpenAt old place c entry → ⊥
  pub unchanged : new ≡ old

-- ---- the record

abbrev pub IsRotateFault : Recording → ℕ → Configuration → HubFault → Type 0
IsRotateFault r place c Stranger = IsAt r place c → ⊥
IsRotateFault r place c Memory = IsAt r place c
IsRotateFault r place c other = ⊥

-- A channel whose events are recorded, since its record was last handed out.
use Rattle.std.specs.Prelude.{◌≡◌, ◌≤◌, ℕ, List, Bool, true, false, Option, length, take, drop, filter, nat_le}
use Rattle.std.specs.List.{flat_map, list_all}
use Rattle.ll_directive.specs.Targets.{WantValue}
use Rattle.ll_settings.specs.Settings.{Configuration}
use Rattle.ll_item.specs.declared.item.Item.{Item}
use Rattle.ll_entry.specs.Blank.{blank_events}
use Rattle.ll_entry.specs.Leads.{IsLed}
use Rattle.ll_entry.specs.Told.{can_happen, line_of}
use Rattle.ll_verdict.specs.Full.{full_by, refusal_after}
use Rattle.ll_room.specs.RoomValue.{RoomValue, IsSame, Stands}
use Rattle.ll_rendition.specs.Refusal.{first_refusal}
use Rattle.ll_verdict.specs.Events.{Event, Publish, Ask, Collect, Close, Clock, steps}
use Rattle.ll_rendition.specs.declared.fault.PublishFault.{PublishFault}

pub record Recording : Type 0 where
  -- what is kept of the channel
  pub room : RoomValue
  -- the number of events when its record was last handed out
  pub at : ℕ
  -- the lines of the events since then, each with its end
  pub lines : List ℕ
  -- the number of these events that count towards the limit of a record
  pub calls : ℕ

-- the most items, requests and readings of a record; replies that are handed out and requests that are closed don't count
abbrev pub record_end : ℕ
record_end = 65536

abbrev pub is_call : Event → Bool
is_call (Publish item) = true
is_call (Ask want) = true
is_call (Clock ms) = true
is_call (Collect ask) = false
is_call (Close ask) = false

-- The recorded channel has had these events: a check of the record's lines goes on from the events before them to all of these, of which it
-- knows the bytes by their number alone; and these lines are exactly those of the events since then, each of which can happen after those
-- before it.
pub record IsRecorded (r : Recording) (events : List Event) : Type 0 where
  pub stands : Stands r.room events
  pub early : r.at ≤ length events
  pub led : IsLed r.room.settings (blank_events (take r.at events)) r.lines (blank_events events)
  pub calls : r.calls ≡ length (filter is_call (drop r.at events))
  pub told : list_all (can_happen r.room.settings) (drop r.at (steps events)) ≡ true
  pub spelled : r.lines ≡ flat_map (line_of r.room.settings) (drop r.at (steps events))

-- whether the record is full
abbrev pub is_record_full : Recording → Bool
is_record_full r = nat_le record_end r.calls

-- the first rule that refuses an item after these events, or none; that the record is full comes last
abbrev pub record_refusal : Recording → List Event → Item → Option PublishFault
record_refusal r events item = first_refusal (refusal_after r.room.settings events item) (full_by (is_record_full r))

-- a request as one of this channel, whatever name of a channel it bears
abbrev pub of_channel : Configuration → WantValue → WantValue
of_channel c want = record want { channel = c.channel }

-- the record goes on: its channel is the same, and so are the events before it
pub record GoesOn (old new : Recording) : Type 0 where
  pub same : IsSame old.room new.room
  pub at : new.at ≡ old.at

-- What a channel's deeds come from and lead to: its events, and how many of them its record had when it was last handed out.
use Rattle.std.specs.Prelude.{◌≡◌, ℕ, ◌+◌, Bool, List, [], ◌∷◌, ◌||◌, drop, filter, fold, length, nat_le}
use Rattle.std.specs.List.{flat_map}
use Rattle.ll_history.specs.declared.deed.Deed.{Deed}
use Rattle.ll_history.specs.declared.deed.Deed.TheVariants as deed
use Rattle.ll_record.specs.Recording.{IsRecorded, Recording, is_call, of_channel, record_end}
use Rattle.ll_settings.specs.Settings.{Configuration}
use Rattle.ll_verdict.specs.Events.{Event, Publish, Ask, Collect, Close, Clock}
use Rattle.ll_verdict.specs.Full.{is_full}

-- the event of a deed, if it is one: that a record is handed out is no event
abbrev pub event_in : Configuration → Deed → List Event
event_in c (deed.Publish item) = Publish item ∷ []
event_in c (deed.Ask want) = Ask (of_channel c want) ∷ []
event_in c (deed.Collect ticket) = Collect ticket ∷ []
event_in c (deed.Close ticket) = Close ticket ∷ []
event_in c (deed.Clock ms) = Clock ms ∷ []
event_in c deed.HandOut = []

-- the events of a channel to which this was done
abbrev pub events_of : Configuration → List Deed → List Event
events_of c deeds = flat_map (event_in c) deeds

pub record HandOuts : Type 0 where
  -- the number of events
  pub events : ℕ
  -- the number of events when the record was last handed out
  pub handed : ℕ

abbrev pub with_event : HandOuts → HandOuts
with_event h = record h { events = h.events + 1 }

abbrev pub handed_by : HandOuts → Deed → HandOuts
handed_by h (deed.Publish item) = with_event h
handed_by h (deed.Ask want) = with_event h
handed_by h (deed.Collect ticket) = with_event h
handed_by h (deed.Close ticket) = with_event h
handed_by h (deed.Clock ms) = with_event h
handed_by h deed.HandOut = record h { handed = h.events }

abbrev pub hand_outs : List Deed → HandOuts
hand_outs deeds = fold handed_by (record { events = 0; handed = 0 }) deeds

-- the number of events that were there when the record was last handed out; 0 if it never was
abbrev pub handed : List Deed → ℕ
handed deeds = (hand_outs deeds).handed

-- whether the record is full: it has as many items, requests and readings as a record takes since it was last handed out
abbrev pub is_record_full_after : Configuration → List Deed → Bool
is_record_full_after c deeds = nat_le record_end (length (filter is_call (drop (handed deeds) (events_of c deeds))))

-- whether no request and no reading is taken any more: the record is full, or the channel has taken as many events as it can
abbrev pub is_filled_after : Configuration → List Deed → Bool
is_filled_after c deeds = is_record_full_after c deeds || is_full (length (events_of c deeds))

-- the recorder is that of a channel to which this was done
pub record IsRecordOf (r : Recording) (deeds : List Deed) : Type 0 where
  pub recorded : IsRecorded r (events_of r.room.settings deeds)
  pub at : r.at ≡ handed deeds

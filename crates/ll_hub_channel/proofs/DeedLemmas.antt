-- What one more deed changes of a channel's events, and of its record.
use Rattle.std.proofs.Common.{◌≡◌, ℕ, ◌+◌, List, [], ◌∷◌, ◌++◌, ◌||◌, Bool, drop, filter, fold, length, refl, ap, ap₂, sym, subst, ◌∙◌, arith, nat_le, append-nil, append_assoc}
use Rattle.std.proofs.lemmas.Grind.{flat_map-append}
use Rattle.std.proofs.lemmas.List.Sums.{fold-append}
use Rattle.ll_directive.specs.Targets.{WantValue}
use Rattle.ll_history.specs.declared.deed.Deed.{Deed}
use Rattle.ll_history.specs.declared.deed.Deed.TheVariants as deed
use Rattle.ll_hub_channel.specs.Deeds.{HandOuts, IsRecordOf, event_in, events_of, hand_outs, handed, handed_by, is_filled_after, is_record_full_after}
use Rattle.ll_hub_channel.specs.Section.{is_filled}
use Rattle.ll_hub_channel.specs.Told.{IsHandedOut}
use Rattle.ll_record.specs.Chunk.{ChunkValue, IsChunk, IsFaithful, emptied}
use Rattle.ll_record.specs.Recording.{GoesOn, IsRecorded, Recording, is_call, is_record_full, of_channel, record_end}
use Rattle.ll_room.specs.RoomValue.{RoomValue}
use Rattle.ll_settings.specs.Settings.{Configuration}
use Rattle.ll_verdict.specs.Events.{Event, Ask, Clock}
use Rattle.ll_verdict.specs.Full.{is_full}

pub events-more : (c : Configuration) (deeds : List Deed) (d : Deed) → events_of c (deeds ++ d ∷ []) ≡ events_of c deeds ++ event_in c d
events-more c deeds d = flat_map-append (event_in c) deeds (d ∷ []) ∙ ap (λ es. events_of c deeds ++ es) (append-nil (event_in c d))

-- ---- the number of events

events-from : (c : Configuration) (h : HandOuts) (deeds : List Deed) → (fold handed_by h deeds).events ≡ h.events + length (events_of c deeds)
events-from c h [] = omega arith
events-from c h (deed.Publish item ∷ ds) = omega (arith, events-from c (handed_by h (deed.Publish item)) ds)
events-from c h (deed.Ask want ∷ ds) = omega (arith, events-from c (handed_by h (deed.Ask want)) ds)
events-from c h (deed.Collect n ∷ ds) = omega (arith, events-from c (handed_by h (deed.Collect n)) ds)
events-from c h (deed.Close n ∷ ds) = omega (arith, events-from c (handed_by h (deed.Close n)) ds)
events-from c h (deed.Clock ms ∷ ds) = omega (arith, events-from c (handed_by h (deed.Clock ms)) ds)
events-from c h (deed.HandOut ∷ ds) = events-from c (handed_by h deed.HandOut) ds

abbrev start : HandOuts
start = record { events = 0; handed = 0 }

many-events : (c : Configuration) (deeds : List Deed) → (hand_outs deeds).events ≡ length (events_of c deeds)
many-events c deeds = omega (arith, events-from c start deeds)

hand_outs-more : (deeds : List Deed) (d : Deed) → hand_outs (deeds ++ d ∷ []) ≡ handed_by (hand_outs deeds) d
hand_outs-more deeds d = fold-append handed_by start deeds (d ∷ [])

handed-more : (deeds : List Deed) (d : Deed) → handed (deeds ++ d ∷ []) ≡ (handed_by (hand_outs deeds) d).handed
handed-more deeds d = ap (λ (h : HandOuts). h.handed) (hand_outs-more deeds d)

-- ---- the recorder

-- at first
pub record-first : (r : Recording) → IsRecorded r [] → r.at ≡ 0 → IsRecordOf r []
record-first r recorded at = record { recorded = recorded; at = at }

-- a deed that is an event
abbrev pub IsEvent : Configuration → Deed → Event → Type 0
IsEvent c d e = (event_in c d ≡ e ∷ []) × ((h : HandOuts) → (handed_by h d).handed ≡ h.handed)

pub record-more : (r r2 : Recording) (deeds : List Deed) (d : Deed) (e : Event) → IsRecordOf r deeds → IsEvent r.room.settings d e
    → IsRecorded r2 (events_of r.room.settings deeds ++ e ∷ []) → GoesOn r r2 → IsRecordOf r2 (deeds ++ d ∷ [])
record-more r r2 deeds d e k is more on = record {
  recorded = subst (λ c. IsRecorded r2 (events_of c (deeds ++ d ∷ []))) (sym on.same.settings)
      (subst (IsRecorded r2) (sym (events-more r.room.settings deeds d ∙ ap (λ es. events_of r.room.settings deeds ++ es) is.0)) more);
  at = on.at ∙ k.at ∙ sym (handed-more deeds d ∙ is.1 (hand_outs deeds));
}

-- a reading and a request
pub both-record : (r r2 : Recording) (deeds : List Deed) (ms : ℕ) (want : WantValue) → IsRecordOf r deeds → GoesOn r r2
    → IsRecorded r2 (events_of r.room.settings deeds ++ Clock ms ∷ Ask (of_channel r.room.settings want) ∷ [])
    → IsRecordOf r2 ((deeds ++ deed.Clock ms ∷ []) ++ deed.Ask want ∷ [])
both-record r r2 deeds ms want k on recorded = record {
  recorded = subst (λ c. IsRecorded r2 (events_of c ((deeds ++ deed.Clock ms ∷ []) ++ deed.Ask want ∷ []))) (sym on.same.settings)
      (subst (IsRecorded r2) (sym events) recorded);
  at = on.at ∙ k.at ∙ sym (handed-more (deeds ++ deed.Clock ms ∷ []) (deed.Ask want) ∙ handed-more deeds (deed.Clock ms));
}
  where
    c : Configuration
    c = r.room.settings

    events : events_of c ((deeds ++ deed.Clock ms ∷ []) ++ deed.Ask want ∷ []) ≡ events_of c deeds ++ Clock ms ∷ Ask (of_channel c want) ∷ []
    events =
        events-more c (deeds ++ deed.Clock ms ∷ []) (deed.Ask want) ∙ ap (λ es. es ++ Ask (of_channel c want) ∷ []) (events-more c deeds (deed.Clock ms))
        ∙ append_assoc (events_of c deeds) (Clock ms ∷ []) (Ask (of_channel c want) ∷ [])

-- the number of its events
counted-events : (r : Recording) (deeds : List Deed) → IsRecordOf r deeds → r.room.events ≡ length (events_of r.room.settings deeds)
counted-events r deeds k = ap (λ (h : RoomValue). h.events) k.recorded.stands

-- the record is handed out
pub record-out : (r : Recording) (deeds : List Deed) → IsRecordOf r deeds → IsRecorded (emptied r) (events_of r.room.settings deeds) → IsRecordOf (emptied r) (deeds ++ deed.HandOut ∷ [])
record-out r deeds k recorded = record {
  recorded = subst (IsRecorded (emptied r)) (sym (events-more r.room.settings deeds deed.HandOut ∙ append-nil (events_of r.room.settings deeds))) recorded;
  at = counted-events r deeds k ∙ sym (many-events r.room.settings deeds) ∙ sym (handed-more deeds deed.HandOut);
}

pub handed-out : (r : Recording) (c : Configuration) (deeds : List Deed) (k : ChunkValue) → IsRecordOf r deeds → r.room.settings ≡ c → IsChunk r k
    → ((events : List Event) → IsRecorded r events → IsFaithful r events k) → IsHandedOut c deeds k
handed-out r c deeds k of is text faithful = record {
  recording = r;
  settings = is;
  recorded = subst (λ c. IsRecorded r (events_of c deeds)) is of.recorded;
  at = of.at;
  text = text;
  faithful = subst (λ c. IsFaithful r (events_of c deeds) k) is (faithful (events_of r.room.settings deeds) of.recorded);
}

-- ---- a full record

pub full-is : (r : Recording) (deeds : List Deed) → IsRecordOf r deeds → is_record_full r ≡ is_record_full_after r.room.settings deeds
full-is r deeds k =
    ap (nat_le record_end) (k.recorded.calls ∙ ap (λ n. length (filter is_call (drop n (events_of r.room.settings deeds)))) k.at)

pub filled-is : (r : Recording) (deeds : List Deed) → IsRecordOf r deeds → is_filled r ≡ is_filled_after r.room.settings deeds
filled-is r deeds k = ap₂ (λ a b. a || b) (full-is r deeds k) (ap is_full (counted-events r deeds k))

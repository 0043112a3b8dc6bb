-- Each call, from the contracts of its parts.
use Rattle.std.proofs.Common.{◌≡◌, ℕ, ◌+◌, ◌*◌, ◌≤◌, ◌^◌, List, [], ◌∷◌, ◌++◌, Bool, None, true, false, Option, refl, ap, ◌∙◌, sym, subst, length, option_map}
use Rattle.std.specs.Str.{is_utf8}
use Rattle.ll_entry.specs.Entered.{event_of, fault_in}
use Rattle.ll_directive.specs.Targets.{WantValue}
use Rattle.ll_entry.specs.Lines.{IsSpelled, asked_line, entry_line}
use Rattle.ll_entry.specs.declared.entry.Recorded.{Recorded}
use Rattle.ll_entry.specs.declared.entry.Recorded.TheVariants as recorded
use Rattle.ll_entry.specs.declared.version.Version.TheVariants.{Two}
use Rattle.ll_settings.specs.Settings.{Configuration, limit_broken}
use Rattle.ll_item.specs.declared.item.Item.{Item}
use Rattle.ll_entry.proofs.WritableProof.{item-writable}
use Rattle.ll_room.proofs.AcceptLemmas.{refusal-told}
use Rattle.ll_room.specs.Answers as room
use Rattle.ll_verdict.specs.Full.{is_full}
use Rattle.ll_room.specs.Full.{refusal_by}
use Rattle.ll_room.specs.RoomValue.{RoomValue, Stands, room_value}
use Rattle.ll_room.specs.StampedValue.{StampedValue}
use Rattle.ll_room.specs.Ticket.{Ticket}
use Rattle.ll_room.specs.declared.asked.Closed.TheVariants as given_up
use Rattle.ll_room.specs.declared.asked.Collected.TheVariants.{Got}
use Rattle.ll_item.specs.ItemLines.{IsTyped}
use Rattle.ll_verdict.proofs.StateLemmas.{state-snoc}
use Rattle.ll_verdict.specs.Events.{Event, Publish, Ask, Clock, Collect, Close}
use Rattle.ll_verdict.specs.Outcome.{outcome_of}
use Rattle.ll_verdict.specs.Verdict.{at_once, held}
use Rattle.ll_verdict.specs.declared.reply.Outcome.{Outcome}
use Rattle.ll_verdict.specs.declared.reply.Reply.{Reply}
use Rattle.ll_record.proofs.Next.{IsNext, recorded-next}
use Rattle.ll_record.proofs.Right.{ask-right, clock-right, close-right, collect-right, publish-right}
use Rattle.ll_record.specs.Kept.{IsKept, spare}
use Rattle.ll_record.specs.Recording.{IsRecorded, Recording, of_channel}

-- an entry after the record's lines
pub record IsTold (old new : Recording) (entry : Recorded) : Type 0 where
  pub within : limit_broken old.room.settings ≡ None
  pub utf8 : is_utf8 (entry_line old.room.settings entry) ≡ true
  pub next : IsNext old new entry

-- it is right after these events
pub record IsRight (old new : Recording) (entry : Recorded) (events : List Event) : Type 0 where
  pub spelled : IsSpelled old.room.settings entry
  pub right : fault_in Two old.room.settings events entry ≡ None
  pub stands : Stands new.room (events ++ event_of entry ∷ [])

step : (old new : Recording) (entry : Recorded) (events : List Event) → IsTold old new entry → IsRecorded old events → IsRight old new entry events
    → IsRecorded new (events ++ event_of entry ∷ [])
step old new entry events t r x = recorded-next old new events entry t.within r x.spelled t.utf8 x.right x.stands t.next

pub publish-step : (old new : Recording) (item : Item) → IsTold old new (recorded.Publish item) → refusal_by old.room item ≡ None → IsTyped item
    → ((events : List Event) → Stands old.room events → Stands new.room (events ++ Publish item ∷ []))
    → (events : List Event) → IsRecorded old events → IsRecorded new (events ++ Publish item ∷ [])
publish-step old new item t none kept stands events r =
    let free = sym (refusal-told old.room events item r.stands) ∙ none in
    step old new (recorded.Publish item) events t r (record {
      spelled = item-writable old.room.settings events item t.within free kept;
      right = publish-right old.room.settings events item free;
      stands = stands events r.stands;
    })

-- nor does its line
pub asked-same : (b : Bool) (ask : ℕ) (c : Configuration) (want : WantValue) (reply : Option Outcome) → asked_line b ask want reply ≡ asked_line b ask (of_channel c want) reply
asked-same true ask c want reply = refl
asked-same false ask c want reply = refl

-- a request has the same effect on a channel, whatever name of a channel it bears
renamed : (h : RoomValue) (c : Configuration) (events : List Event) (want : WantValue) → Stands h (events ++ Ask want ∷ [])
    → Stands h (events ++ Ask (of_channel c want) ∷ [])
renamed h c events want st =
    st ∙ ap (room_value h.channel h.settings) (state-snoc h.settings events (Ask want) ∙ sym (state-snoc h.settings events (Ask (of_channel c want))))

pub ask-step : (old new : Recording) (want : WantValue) (answer : Option Outcome)
    → IsTold old new (recorded.Ask (old.room.asks + 1) (of_channel old.room.settings want) answer) → is_full old.room.events ≡ false
    → IsSpelled old.room.settings (recorded.Ask (old.room.asks + 1) (of_channel old.room.settings want) answer)
    → ((events : List Event) → Stands old.room events → answer ≡ option_map outcome_of (at_once old.room.settings (held old.room.settings events) events want))
    → ((events : List Event) → Stands old.room events → Stands new.room (events ++ Ask want ∷ []))
    → (events : List Event) → IsRecorded old events → IsRecorded new (events ++ Ask (of_channel old.room.settings want) ∷ [])
ask-step old new want answer t unfull spelled is stands events r =
    step old new (recorded.Ask (old.room.asks + 1) (of_channel old.room.settings want) answer) events t r (record {
      spelled = spelled;
      right = ask-right old.room events want answer r.stands unfull (is events r.stands);
      stands = renamed new.room old.room.settings events want (stands events r.stands);
    })

pub clock-step : (old new : Recording) (ms : ℕ) → IsTold old new (recorded.Clock ms) → is_full old.room.events ≡ false → ms ≤ 2 ^ 60
    → IsSpelled old.room.settings (recorded.Clock ms)
    → ((events : List Event) → Stands old.room events → Stands new.room (events ++ Clock ms ∷ []))
    → (events : List Event) → IsRecorded old events → IsRecorded new (events ++ Clock ms ∷ [])
clock-step old new ms t unfull early spelled stands events r =
    step old new (recorded.Clock ms) events t r (record {
      spelled = spelled;
      right = clock-right old.room events ms r.stands unfull early;
      stands = stands events r.stands;
    })

pub collect-step : (old new : Recording) (p : Ticket) (m : StampedValue Reply) → IsTold old new (recorded.Collect p.ticket (outcome_of m.value))
    → IsSpelled old.room.settings (recorded.Collect p.ticket (outcome_of m.value)) → Got m ≡ room.collected old.room p
    → ((events : List Event) → Stands old.room events → Stands new.room (events ++ Collect p.ticket ∷ []))
    → (events : List Event) → IsRecorded old events → IsRecorded new (events ++ Collect p.ticket ∷ [])
collect-step old new p m t spelled got stands events r =
    step old new (recorded.Collect p.ticket (outcome_of m.value)) events t r (record {
      spelled = spelled;
      right = collect-right old.room events p m r.stands got;
      stands = stands events r.stands;
    })

pub close-step : (old new : Recording) (p : Ticket) → IsTold old new (recorded.Close p.ticket) → IsSpelled old.room.settings (recorded.Close p.ticket)
    → given_up.Done ≡ room.closed old.room p → ((events : List Event) → Stands old.room events → Stands new.room (events ++ Close p.ticket ∷ []))
    → (events : List Event) → IsRecorded old events → IsRecorded new (events ++ Close p.ticket ∷ [])
close-step old new p t spelled done stands events r =
    step old new (recorded.Close p.ticket) events t r (record {
      spelled = spelled;
      right = close-right old.room events p r.stands done;
      stands = stands events r.stands;
    })

-- what the recorder keeps, after a call that goes on for all events
pub kept-after : (old new : Recording) (e : Event) (free left : ℕ) → IsKept old free
    → ((events : List Event) → IsRecorded old events → IsRecorded new (events ++ e ∷ [])) → spare * length new.room.slots ≤ left → IsKept new left
kept-after old new e free left k next enough = record { events = k.events ++ e ∷ []; recorded = next k.events k.recorded; room = enough }

-- the same, of the recording that the caller knows
pub at-view : (r now new : Recording) (e : Event) → r ≡ now → ((events : List Event) → IsRecorded r events → IsRecorded new (events ++ e ∷ []))
    → (events : List Event) → IsRecorded now events → IsRecorded new (events ++ e ∷ [])
at-view r now new e is next = subst (λ (x : Recording). (events : List Event) → IsRecorded x events → IsRecorded new (events ++ e ∷ [])) is next

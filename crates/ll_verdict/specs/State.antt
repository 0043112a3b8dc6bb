-- What is still needed of all events of a channel, and how one more event changes it.
use Rattle.std.specs.Prelude.{◌≡◌, ℕ, ◌+◌, ◌*◌, ◌==◌, ◌&&◌, ◌||◌, List, [], ◌∷◌, ◌++◌, Bool, true, false, not, Option, Some, None, is_some, is_none, nat_le, length, filter, map, if◌then◌else◌}
use Rattle.std.specs.List.{list_any}
use Rattle.ll_settings.specs.Settings.{Configuration}
use Rattle.ll_item.specs.declared.item.Item.{Item}
use Rattle.ll_directive.specs.Targets.{WantValue}
use Rattle.ll_verdict.specs.declared.wanted.Wanted.{Wanted}
use Rattle.ll_verdict.specs.declared.entry.Slot.{Slot}
use Rattle.ll_verdict.specs.declared.reply.Reply.{Reply}
use Rattle.ll_verdict.specs.Events.{Event, Publish, Ask, Collect, Close, Clock, Step, steps, items, time, asks, taken, later, counted}
use Rattle.ll_verdict.specs.Verdict.{wanted_of, Pending, deadline, is_there, closes, reply, reply_by, reply_with, held}

pub record State : Type 0 where
  -- all items that were accepted
  pub items : List Item
  -- milliseconds
  pub time : ℕ
  -- how many requests there were
  pub asks : ℕ
  -- the open requests, in order of asking: each waits, or has its reply
  pub slots : List Slot
  -- how many events there were
  pub events : ℕ

abbrev pub slot_of : Configuration → List Event → Pending → Slot
slot_of c events r = record {
  entry = record { ticket = r.ticket; wanted = r.wanted; seen = length (items c r.before); deadline = deadline c r };
  settled = reply c events r;
}

abbrev pub is_collect : ℕ → Event → Bool
is_collect ticket (Publish item) = false
is_collect ticket (Ask want) = false
is_collect ticket (Collect other) = ticket == other
is_collect ticket (Close other) = false
is_collect ticket (Clock ms) = false

-- with this event the request is closed, or its reply is handed out
abbrev pub leaves : Configuration → Pending → Step → Bool
leaves c r s = closes r s || (is_collect r.ticket s.event && is_some (reply c s.before r))

-- whether the request is no longer open
abbrev pub gone : Configuration → List Event → Pending → Bool
gone c events r = list_any (leaves c r) (steps events)

-- the requests that wait or whose reply wasn't handed out, in order of asking
abbrev pub open_requests : Configuration → List Event → List Pending
open_requests c events = filter (λ r. not (gone c events r)) (held c events)

-- the state that stands for `events`
abbrev pub state_of : Configuration → List Event → State
state_of c events = record {
  items = items c events;
  time = time events;
  asks = asks events;
  slots = map (slot_of c events) (open_requests c events);
  events = length events;
}

-- the plain step

-- an open request after `items` and at `time`
abbrev pub settle : Configuration → List Item → ℕ → Slot → Slot
settle c items time s = record s {
  settled = if is_none s.settled && (is_there c items s.entry.wanted || nat_le s.entry.deadline time) then Some (reply_with c items s.entry.wanted) else s.settled;
}

-- whether an open request stays open with the event
abbrev pub stays : Event → Slot → Bool
stays (Publish item) s = true
stays (Ask want) s = true
stays (Collect ticket) s = not (s.entry.ticket == ticket && is_some s.settled)
stays (Close ticket) s = not (s.entry.ticket == ticket)
stays (Clock ms) s = true

abbrev pub is_waiting : Slot → Bool
is_waiting s = is_none s.settled

-- how many of `slots` wait
abbrev pub waiting_in : List Slot → ℕ
waiting_in slots = length (filter is_waiting slots)

-- the reply to a request at once, or none if it has to wait
abbrev pub answer_of : Configuration → State → WantValue → Option Reply
answer_of c s want = reply_by c (waiting_in s.slots) s.items (wanted_of c want)

abbrev pub slot_by : Configuration → Option Reply → State → Option Wanted → List Slot
slot_by c None s (Some a) =
    (record {
      entry = record { ticket = s.asks + 1; wanted = a; seen = length s.items; deadline = s.time + 3000 * c.target };
      settled = None;
    }) ∷ []
slot_by c None s None = []
slot_by c (Some answer) s wanted = []

-- the new request, if it has to wait
abbrev pub new_slots : Configuration → State → Event → List Slot
new_slots c s (Publish item) = []
new_slots c s (Ask want) = slot_by c (answer_of c s want) s (wanted_of c want)
new_slots c s (Collect ticket) = []
new_slots c s (Close ticket) = []
new_slots c s (Clock ms) = []

-- the state after one more event
abbrev pub next : Configuration → State → Event → State
next c s e = record {
  items = taken c s.items e;
  time = later s.time e;
  asks = counted s.asks e;
  slots = map (settle c (taken c s.items e) (later s.time e)) (filter (stays e) s.slots) ++ new_slots c s e;
  events = s.events + 1;
}

-- the plain step gives the state with one more event, whatever happened before
abbrev pub StateLaw : Type 0
StateLaw = (c : Configuration) (events : List Event) (e : Event) → state_of c (events ++ e ∷ []) ≡ next c (state_of c events) e

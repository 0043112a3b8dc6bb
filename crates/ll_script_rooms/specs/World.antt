-- The channels of a script with their events, waiting requests and answers, and what each act of the script changes in them.
use Rattle.std.specs.Prelude.{ℕ, zero, suc, ◌+◌, ◌-◌, ◌^◌, ◌&&◌, List, [], ◌∷◌, ◌++◌, Bool, true, false, not, Option, Some, None, is_some, length, filter, find, fold, map, min, nat_le, nat_lt, slice_get, slice_set, sum_by, if◌then◌else◌}
use Rattle.ll_directive.specs.Targets.{WantValue}
use Rattle.ll_settings.specs.Settings.{Configuration}
use Rattle.ll_item.specs.declared.item.Item.{Item}
use Rattle.ll_verdict.specs.Events.{Event, Publish, Ask, Collect, Close, Clock, asks, items}
use Rattle.ll_verdict.specs.State.{gone}
use Rattle.ll_verdict.specs.Verdict.{Pending, at_once, held, reply, reply_of}
use Rattle.ll_rendition.specs.declared.fault.PublishFault.{PublishFault}
use Rattle.ll_verdict.specs.declared.reply.Reply.{Reply}
use Rattle.ll_verdict.specs.declared.reply.Settled.{Settled}
use Rattle.ll_verdict.specs.Full.{is_full, refusal_after}
use Rattle.ll_verdict.specs.Standing as verdict
use Rattle.ll_verdict.specs.declared.standing.Standing.{Standing}
use Rattle.ll_verdict.specs.declared.fault.ClockFault.{ClockFault}
use Rattle.ll_verdict.specs.declared.fault.ClockFault.TheVariants.{ClockRange, RecordFull}
use Rattle.ll_script_rooms.specs.Waits.{under, wait_of, without}
use Rattle.ll_script_rooms.specs.declared.owner.Owner.{Owner}
use Rattle.ll_script_rooms.specs.declared.wait.Wait.{Wait}
use Rattle.ll_script_rooms.specs.declared.answer.ActAnswer.{ActAnswer}
use Rattle.ll_script_rooms.specs.declared.answer.ActAnswer.TheVariants.{Accepted, Refused, ClockRefused, Replied, Unavailable}

pub record Channel : Type 0 where
  pub settings : Configuration
  -- all events since its declaration
  pub events : List Event

pub record World : Type 0 where
  pub channels : List Channel
  -- the requests that wait, without a reply so far, in order of asking
  pub waits : List Wait
  -- the answers so far, in order
  pub answers : List ActAnswer

abbrev pub start : World
start = record { channels = []; waits = []; answers = [] }

-- the settings of all channels, in order of declaration
abbrev pub all_settings : World → List Configuration
all_settings w = map (λ (c : Channel). c.settings) w.channels

abbrev pub with_event : Event → Channel → Channel
with_event event channel = record { settings = channel.settings; events = channel.events ++ event ∷ [] }

abbrev pub happens : World → ℕ → Channel → Event → World
happens w place channel event = record w { channels = slice_set w.channels place (with_event event channel) }

abbrev pub says : World → ActAnswer → World
says w answer = record w { answers = w.answers ++ answer ∷ [] }

-- the answers were taken
abbrev pub silent : World → World
silent w = record w { answers = [] }

abbrev pub waits_more : World → Wait → World
waits_more w x = record w { waits = w.waits ++ x ∷ [] }

abbrev pub waits_less : World → ℕ → ℕ → World
waits_less w place ticket = record w { waits = without place ticket w.waits }

-- a channel is declared, with no events: its time is 0 (rule 28)
abbrev pub declare : Configuration → World → World
declare settings w = record w { channels = w.channels ++ (record { settings = settings; events = [] }) ∷ [] }

-- ---- an item is accepted or refused

abbrev pub offered : World → ℕ → Channel → Item → Option PublishFault → World
offered w place channel item (Some fault) = says w (Refused fault)
offered w place channel item None = says (happens w place channel (Publish item)) (Accepted (length (items channel.settings channel.events) + 1))

abbrev pub offer_at : World → ℕ → Item → Option Channel → World
offer_at w place item None = w
offer_at w place item (Some channel) = offered w place channel item (refusal_after channel.settings channel.events item)

-- `item` is offered to the channel at `place`
abbrev pub offer : ℕ → Item → World → World
offer place item w = offer_at w place item (slice_get w.channels place)

-- ---- where a rendition stands, which is no event

-- where the rendition of index `rendition` stands, if the channel has it
abbrev pub standing_in : ℕ → Channel → Option Standing
standing_in rendition channel =
    if nat_lt rendition (length channel.settings.renditions)
    then Some (verdict.standing channel.settings (items channel.settings channel.events) rendition)
    else None

abbrev pub standing_at : ℕ → Option Channel → Option Standing
standing_at rendition None = None
standing_at rendition (Some channel) = standing_in rendition channel

-- where a rendition of the channel at `place` stands, after all items of the channel
abbrev pub standing : ℕ → ℕ → World → Option Standing
standing place rendition w = standing_at rendition (slice_get w.channels place)

-- ---- a request is answered at once, or it waits

abbrev pub asked : World → Owner → ℕ → Channel → WantValue → Option Reply → World
asked w owner place channel want (Some answer) = says (happens w place channel (Ask want)) (Replied owner answer)
asked w owner place channel want None = waits_more (happens w place channel (Ask want)) (record { owner = owner; place = place; ticket = asks channel.events + 1 })

-- a channel that is full of events takes no request (rule 26)
abbrev pub asked_if : Bool → World → Owner → ℕ → Channel → WantValue → World
asked_if true w owner place channel want = says w (Unavailable owner)
asked_if false w owner place channel want = asked w owner place channel want (at_once channel.settings (held channel.settings channel.events) channel.events want)

abbrev pub ask_at : World → Owner → ℕ → WantValue → Option Channel → World
ask_at w owner place want None = w
ask_at w owner place want (Some channel) = asked_if (is_full (length channel.events)) w owner place channel want

-- `owner` makes a request of the channel at `place`
abbrev pub ask : Owner → ℕ → WantValue → World → World
ask owner place want w = ask_at w owner place want (slice_get w.channels place)

-- ---- a request that waits is closed, without a reply

abbrev pub close_at : World → Wait → Option Channel → World
close_at w x None = w
close_at w x (Some channel) = waits_less (happens w x.place channel (Close x.ticket)) x.place x.ticket

abbrev pub close_of : World → Option Wait → World
close_of w None = w
close_of w (Some x) = close_at w x (slice_get w.channels x.place)

-- the first request of `owner` that waits is closed
abbrev pub close : Owner → World → World
close owner w = close_of w (wait_of owner w.waits)

-- ---- a reading of a channel's clock

abbrev pub clock_refusal : ℕ → List Event → Option ClockFault
clock_refusal ms events =
    if nat_le ms (2 ^ 60)
    then (if is_full (length events) then Some RecordFull else None)
    else Some ClockRange

abbrev pub clocked : World → ℕ → Channel → ℕ → Option ClockFault → World
clocked w place channel ms (Some fault) = says w (ClockRefused fault)
clocked w place channel ms None = happens w place channel (Clock ms)

abbrev pub clock_at : World → ℕ → ℕ → Option Channel → World
clock_at w place ms None = w
clock_at w place ms (Some channel) = clocked w place channel ms (clock_refusal ms channel.events)

-- the clock of the channel at `place` is read as `ms` milliseconds
abbrev pub clock : ℕ → ℕ → World → World
clock place ms w = clock_at w place ms (slice_get w.channels place)

-- ---- replies that are due

-- whether the reply of request `r` is decided, and `r` was neither collected nor closed
abbrev pub is_due : Configuration → List Event → Pending → Bool
is_due c events r = not (gone c events r) && is_some (reply c events r)

-- the first request whose reply is due
abbrev pub first_due : Configuration → List Event → Option Pending
first_due c events = find (is_due c events) (held c events)

abbrev pub told : World → Owner → Option Settled → World
told w owner None = w
told w owner (Some settled) = says w (Replied owner (reply_of settled))

-- the owner of request `r` gets its reply, and the request waits no longer
abbrev pub told_to : World → ℕ → Channel → Pending → Option Wait → World
told_to w place channel r None = w
told_to w place channel r (Some x) =
    waits_less (told (happens w place channel (Collect r.ticket)) x.owner (reply channel.settings channel.events r)) place r.ticket

abbrev pub next_reply_of : World → ℕ → Channel → Option Pending → World
next_reply_of w place channel None = w
next_reply_of w place channel (Some r) = told_to w place channel r (under place r.ticket w.waits)

abbrev pub next_reply_at : World → ℕ → Option Channel → World
next_reply_at w place None = w
next_reply_at w place (Some channel) = next_reply_of w place channel (first_due channel.settings channel.events)

-- the reply of the channel at `place` that is due and was asked for first is handed out
abbrev pub next_reply : ℕ → World → World
next_reply place w = next_reply_at w place (slice_get w.channels place)

abbrev pub repeat : {W : Type 0} → (W → W) → ℕ → W → W
repeat f zero w = w
repeat f (suc n) w = f (repeat f n w)

-- all replies of the channel at `place` that are due are handed out; no more are due than requests wait
abbrev pub rest : ℕ → World → World
rest place w = repeat (next_reply place) (length w.waits) w

-- at the end all requests that wait are closed
abbrev pub finish : World → World
finish w = fold (λ v x. close_at v x (slice_get v.channels x.place)) w w.waits

-- ---- the count of events

-- whether a line causes the event, which is no reply that is handed out
abbrev pub is_brought : Event → Bool
is_brought (Publish item) = true
is_brought (Ask want) = true
is_brought (Collect ticket) = false
is_brought (Close ticket) = true
is_brought (Clock ms) = true

abbrev pub brought : Channel → ℕ
brought channel = length (filter is_brought channel.events)

-- where the count stops
abbrev pub count_end : ℕ
count_end = 2 ^ 64 - 1

-- the number of events that lines caused in all channels, up to `count_end`
abbrev pub event_count : World → ℕ
event_count w = min (sum_by brought w.channels) count_end

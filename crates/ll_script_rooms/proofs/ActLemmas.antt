-- What an act does is what the definition says.
use Rattle.std.proofs.Common.{◌≡◌, ℕ, zero, suc, ◌+◌, ◌<◌, ◌≤◌, ◌^◌, ◌==◌, ◌&&◌, List, [], ◌∷◌, ◌++◌, Bool, true, false, cond, if◌then◌else◌, Option, Some, None, is_some, option_map, nat_le, length, refl, ap, ap₂, ◌∙◌, sym, subst, true≢false, filter, length-append, find, min, sum_by, slice_get, slice_set, arith}
use Rattle.std.proofs.lemmas.Bool.Decides.{nat_tests}
use Rattle.std.proofs.lemmas.List.Elements.{filter-append}
use Rattle.std.proofs.lemmas.List.Sums.{sum_by-append, sum_by-set}
use Rattle.std.proofs.lemmas.Option.{get_or_from_slice_get, slice_get_within}
use Rattle.ll_verdict.specs.Waiting.{first_ready, reply_at, ticket_in}
use Rattle.ll_directive.specs.Targets.{WantValue}
use Rattle.ll_settings.specs.Settings.{Configuration}
use Rattle.ll_item.specs.declared.item.Item.{Item}
use Rattle.ll_verdict.specs.Events.{Event, Publish, Ask, Collect, Close, Clock}
use Rattle.ll_verdict.specs.State.{slot_of, state_of}
use Rattle.ll_verdict.specs.Verdict.{Pending, at_once, held, reply_of}
use Rattle.ll_rendition.specs.declared.fault.PublishFault.{PublishFault}
use Rattle.ll_verdict.specs.declared.reply.Reply.{Reply}
use Rattle.ll_verdict.specs.declared.reply.Settled.{Settled}
use Rattle.ll_room.specs.Answers as room
use Rattle.ll_verdict.specs.Full.{event_end, is_full, refusal_after}
use Rattle.ll_room.specs.RoomValue.{RoomValue, IsSame, Stands, room_value, tickets}
use Rattle.ll_room.specs.StampedValue.{StampedValue}
use Rattle.ll_room.specs.Ticket.{Ticket}
use Rattle.ll_room.specs.declared.asked.Asked.{Asked}
use Rattle.ll_room.specs.declared.asked.Asked.TheVariants.{Now, Held}
use Rattle.ll_room.specs.declared.asked.Closed.TheVariants as given_up
use Rattle.ll_room.specs.declared.asked.Collected.{Collected}
use Rattle.ll_room.specs.declared.asked.Collected.TheVariants.{Got, Still, Stranger}
use Rattle.ll_verdict.specs.declared.fault.ClockFault.TheVariants.{ClockRange, RecordFull}
use Rattle.ll_script_rooms.specs.Waits.{is_of, is_under, under, wait_of, without}
use Rattle.ll_script_rooms.specs.declared.owner.Owner.{Owner}
use Rattle.ll_script_rooms.specs.declared.wait.Wait.{Wait}
use Rattle.ll_script_rooms.specs.Kept.{AreTied, Kept, Leads, home_at, room_values_from, kept_world, open_in}
use Rattle.ll_script_rooms.specs.World.{Channel, World, count_end, event_count, is_brought, with_event, happens, waits_less, told, told_to, next_reply, next_reply_at, next_reply_of, first_due, offer, offer_at, offered, ask, ask_at, asked, asked_if, brought, close_at, clock, clock_at, clocked, declare}
use Rattle.ll_script_rooms.specs.declared.answer.ActAnswer.TheVariants.{Accepted, Refused, ClockRefused, Replied, Unavailable}
use Rattle.ll_script_rooms.proofs.DueLemmas.{first_is, reply_is, ready_open, ready_reply}
use Rattle.ll_script_rooms.proofs.StandLemmas.{GoesOn, changed, channel_of, homes_more, leads, no_channel, no_more, number_is, stands_for, stays}
use Rattle.ll_script_rooms.proofs.TieLemmas.{is_open_there, none_some, same_test, some_is}

set_same : {X : Type 0} (xs : List X) (i : ℕ) (x : X) → slice_get xs i ≡ Some x → slice_set xs i x ≡ xs
set_same [] i x h = refl
set_same (y ∷ xs) zero x h = ap (λ z. z ∷ xs) (sym (some_is y x h))
set_same (y ∷ xs) (suc i) x h = ap (λ zs. y ∷ zs) (set_same xs i x h)

-- a room that stays as it is
pub unset : (rooms : List RoomValue) (i : ℕ) (h h2 : RoomValue) → slice_get rooms i ≡ Some h → h2 ≡ h → slice_set rooms i h2 ≡ rooms
unset rooms i h h2 at e = ap (slice_set rooms i) e ∙ set_same rooms i h at

rooms_of : (old : Kept) (w : World) → old ≡ kept_world w → old.rooms ≡ room_values_from 0 w.channels
rooms_of old w e = ap (λ (k : Kept). k.rooms) e

waits_of : (old : Kept) (w : World) → old ≡ kept_world w → old.waits ≡ w.waits
waits_of old w e = ap (λ (k : Kept). k.waits) e

events_of : (old : Kept) (w : World) → old ≡ kept_world w → old.events ≡ event_count w
events_of old w e = ap (λ (k : Kept). k.events) e

-- one event more is counted
abbrev pub one_more : ℕ → ℕ
one_more n = min (n + 1) count_end

one_brought : (cs : List Channel) (i : ℕ) (c : Channel) (e : Event) → slice_get cs i ≡ Some c → sum_by brought (slice_set cs i (with_event e c)) + brought c ≡ sum_by brought cs + brought (with_event e c)
one_brought cs i c e there =
    let all = sum_by-set brought cs i (with_event e c) c (slice_get_within cs i c there) in
    let was = get_or_from_slice_get cs i c c there in
    omega (arith, all, ap brought was)

brought_by : (c : Channel) (e : Event) (b : Bool) → is_brought e ≡ b → brought (with_event e c) ≡ brought c + cond b 1 0
brought_by c e b k =
    ap length (filter-append is_brought c.events (e ∷ [])) ∙ length-append (filter is_brought c.events) (filter is_brought (e ∷ []))
    ∙ ap (λ d. brought c + length (cond d (e ∷ []) [])) k ∙ last b
  where
    last : (b : Bool) → brought c + length (cond b (e ∷ []) []) ≡ brought c + cond b 1 0
    last true = refl
    last false = refl

up_to_end : (n s t b d m : ℕ) → n ≡ min s m → t + b ≡ s + d → d ≡ b + 1 → min (n + 1) m ≡ min t m
up_to_end n s t b d m e f g = omega arith

as_before : (n s t b d m : ℕ) → n ≡ min s m → t + b ≡ s + d → d ≡ b + 0 → n ≡ min t m
as_before n s t b d m e f g = omega arith

more_events : (n2 : ℕ) (old : Kept) (w : World) (i : ℕ) (c : Channel) (e : Event) → n2 ≡ one_more old.events → old ≡ kept_world w → slice_get w.channels i ≡ Some c → is_brought e ≡ true
    → n2 ≡ min (sum_by brought (slice_set w.channels i (with_event e c))) count_end
more_events n2 old w i c e more k there b =
    more ∙ up_to_end old.events (sum_by brought w.channels) (sum_by brought (slice_set w.channels i (with_event e c))) (brought c) (brought (with_event e c)) count_end
    (events_of old w k) (one_brought w.channels i c e there) (brought_by c e true b)

same_events : (old : Kept) (w : World) (i : ℕ) (c : Channel) (e : Event) → old ≡ kept_world w → slice_get w.channels i ≡ Some c → is_brought e ≡ false
    → old.events ≡ min (sum_by brought (slice_set w.channels i (with_event e c))) count_end
same_events old w i c e k there b =
    as_before old.events (sum_by brought w.channels) (sum_by brought (slice_set w.channels i (with_event e c))) (brought c) (brought (with_event e c)) count_end
    (events_of old w k) (one_brought w.channels i c e there) (brought_by c e false b)

-- a new channel has no events
none_brought : (s : Configuration) (cs : List Channel) → sum_by brought cs ≡ sum_by brought (cs ++ (record { settings = s; events = [] }) ∷ [])
none_brought s cs = omega (arith, sum_by-append brought cs ((record { settings = s; events = [] }) ∷ []))

settings_of : (i : ℕ) (c : Channel) (h : RoomValue) → h ≡ home_at i c → h.settings ≡ c.settings
settings_of i c h is = ap (λ (h : RoomValue). h.settings) is

-- ---- if there is no channel

pub offer_nowhere : (old : Kept) (w : World) (i : ℕ) (item : Item) → old ≡ kept_world w → slice_get old.rooms i ≡ None → Leads old None w (offer i item w)
offer_nowhere old w i item e at = no_channel old.rooms w.channels i (rooms_of old w e) at (λ d. Leads old None w (offer_at w i item d)) (stays old w e)

pub ask_nowhere : (old : Kept) (w : World) (owner : Owner) (i : ℕ) (want : WantValue) → old ≡ kept_world w → slice_get old.rooms i ≡ None → Leads old None w (ask owner i want w)
ask_nowhere old w owner i want e at = no_channel old.rooms w.channels i (rooms_of old w e) at (λ d. Leads old None w (ask_at w owner i want d)) (stays old w e)

pub clock_nowhere : (old : Kept) (w : World) (i ms : ℕ) → old ≡ kept_world w → slice_get old.rooms i ≡ None → Leads old None w (clock i ms w)
clock_nowhere old w i ms e at = no_channel old.rooms w.channels i (rooms_of old w e) at (λ d. Leads old None w (clock_at w i ms d)) (stays old w e)

pub next_reply_nowhere : (old : Kept) (w : World) (i : ℕ) → old ≡ kept_world w → slice_get old.rooms i ≡ None → Leads old None w (next_reply i w)
next_reply_nowhere old w i e at = no_channel old.rooms w.channels i (rooms_of old w e) at (λ d. Leads old None w (next_reply_at w i d)) (stays old w e)

-- ---- an item

pub accepted : (n2 : ℕ) (old : Kept) (w : World) (i : ℕ) (item : Item) (n : ℕ) (h h2 : RoomValue) → n2 ≡ one_more old.events → old ≡ kept_world w → slice_get old.rooms i ≡ Some h → IsSame h h2
    → ((events : List Event) → Stands h events → (refusal_after h.settings events item ≡ None) × Stands h2 (events ++ Publish item ∷ [])) → n ≡ h.count + 1
    → Leads (record { rooms = slice_set old.rooms i h2; waits = old.waits; events = n2 }) (Some (Accepted n)) w (offer i item w)
accepted n2 old w i item n h h2 more e at same goes k =
    channel_of old.rooms w.channels i h (rooms_of old w e) at
    (λ d. Leads (record { rooms = slice_set old.rooms i h2; waits = old.waits; events = n2 }) (Some (Accepted n)) w (offer_at w i item d))
    (λ c there is. subst (λ o. Leads (record { rooms = slice_set old.rooms i h2; waits = old.waits; events = n2 }) (Some (Accepted n)) w (offered w i c item o))
    (sym (ap (λ s. refusal_after s c.events item) (sym (settings_of i c h is)) ∙ (goes c.events (stands_for i c h is)).0))
    (leads (slice_set old.rooms i h2) old.waits n2 (Some (Accepted n)) w (offered w i c item None)
    (changed old.rooms w.channels i h h2 c (Publish item) (rooms_of old w e) is same (λ events st. (goes events st).1)) (waits_of old w e) (more_events n2 old w i c (Publish item) more e there refl)
    (ap (λ m. w.answers ++ Accepted m ∷ []) (sym (k ∙ ap (λ (h : RoomValue). h.count + 1) is)))))

pub refused : (old : Kept) (w : World) (i : ℕ) (item : Item) (f : PublishFault) (h h2 : RoomValue) → old ≡ kept_world w → slice_get old.rooms i ≡ Some h → h2 ≡ h
    → ((events : List Event) → Stands h events → refusal_after h.settings events item ≡ Some f)
    → Leads (record { rooms = slice_set old.rooms i h2; waits = old.waits; events = old.events }) (Some (Refused f)) w (offer i item w)
refused old w i item f h h2 e at u why =
    channel_of old.rooms w.channels i h (rooms_of old w e) at
    (λ d. Leads (record { rooms = slice_set old.rooms i h2; waits = old.waits; events = old.events }) (Some (Refused f)) w (offer_at w i item d))
    (λ c there is. subst (λ o. Leads (record { rooms = slice_set old.rooms i h2; waits = old.waits; events = old.events }) (Some (Refused f)) w (offered w i c item o))
    (sym (ap (λ s. refusal_after s c.events item) (sym (settings_of i c h is)) ∙ why c.events (stands_for i c h is)))
    (leads (slice_set old.rooms i h2) old.waits old.events (Some (Refused f)) w (offered w i c item (Some f))
    (unset old.rooms i h h2 at u ∙ rooms_of old w e) (waits_of old w e) (events_of old w e) refl))

-- ---- the clock

in_range : (limit ms : ℕ) → ms ≤ limit → nat_le ms limit ≡ true
in_range limit ms h = grind (arith, nat_tests, h)

out_of_range : (limit ms : ℕ) → limit < ms → nat_le ms limit ≡ false
out_of_range limit ms h = grind (arith, nat_tests, h)

pub clocked_on : (n2 : ℕ) (old : Kept) (w : World) (i ms : ℕ) (h h2 : RoomValue) → n2 ≡ one_more old.events → old ≡ kept_world w → slice_get old.rooms i ≡ Some h → IsSame h h2 → GoesOn h h2 (Clock ms) → ms ≤ 2 ^ 60
    → h.events < event_end
    → Leads (record { rooms = slice_set old.rooms i h2; waits = old.waits; events = n2 }) None w (clock i ms w)
clocked_on n2 old w i ms h h2 more e at same goes near few =
    channel_of old.rooms w.channels i h (rooms_of old w e) at
    (λ d. Leads (record { rooms = slice_set old.rooms i h2; waits = old.waits; events = n2 }) None w (clock_at w i ms d))
    (λ c there is. subst (λ o. Leads (record { rooms = slice_set old.rooms i h2; waits = old.waits; events = n2 }) None w (clocked w i c ms o))
    (sym (ap₂ (λ a b. if a then (if b then Some RecordFull else None) else Some ClockRange) (in_range (2 ^ 60) ms near)
    (ap (λ (h : RoomValue). is_full h.events) (sym is) ∙ out_of_range h.events event_end few)))
    (leads (slice_set old.rooms i h2) old.waits n2 None w (clocked w i c ms None)
    (changed old.rooms w.channels i h h2 c (Clock ms) (rooms_of old w e) is same goes) (waits_of old w e) (more_events n2 old w i c (Clock ms) more e there refl) (stays old w e).answers))

pub clock_range : (old : Kept) (w : World) (i ms : ℕ) (h h2 : RoomValue) → old ≡ kept_world w → slice_get old.rooms i ≡ Some h → h2 ≡ h → 2 ^ 60 < ms
    → Leads (record { rooms = slice_set old.rooms i h2; waits = old.waits; events = old.events }) (Some (ClockRefused ClockRange)) w (clock i ms w)
clock_range old w i ms h h2 e at u past =
    channel_of old.rooms w.channels i h (rooms_of old w e) at
    (λ d. Leads (record { rooms = slice_set old.rooms i h2; waits = old.waits; events = old.events }) (Some (ClockRefused ClockRange)) w (clock_at w i ms d))
    (λ c there is. subst (λ o. Leads (record { rooms = slice_set old.rooms i h2; waits = old.waits; events = old.events }) (Some (ClockRefused ClockRange)) w (clocked w i c ms o))
    (sym (ap (λ a. if a then (if is_full (length c.events) then Some RecordFull else None) else Some ClockRange) (out_of_range (2 ^ 60) ms past)))
    (leads (slice_set old.rooms i h2) old.waits old.events (Some (ClockRefused ClockRange)) w (clocked w i c ms (Some ClockRange))
    (unset old.rooms i h h2 at u ∙ rooms_of old w e) (waits_of old w e) (events_of old w e) refl))

pub clock_full : (old : Kept) (w : World) (i ms : ℕ) (h h2 : RoomValue) → old ≡ kept_world w → slice_get old.rooms i ≡ Some h → h2 ≡ h → ms ≤ 2 ^ 60 → event_end ≤ h.events
    → Leads (record { rooms = slice_set old.rooms i h2; waits = old.waits; events = old.events }) (Some (ClockRefused RecordFull)) w (clock i ms w)
clock_full old w i ms h h2 e at u near full =
    channel_of old.rooms w.channels i h (rooms_of old w e) at
    (λ d. Leads (record { rooms = slice_set old.rooms i h2; waits = old.waits; events = old.events }) (Some (ClockRefused RecordFull)) w (clock_at w i ms d))
    (λ c there is. subst (λ o. Leads (record { rooms = slice_set old.rooms i h2; waits = old.waits; events = old.events }) (Some (ClockRefused RecordFull)) w (clocked w i c ms o))
    (sym (ap₂ (λ a b. if a then (if b then Some RecordFull else None) else Some ClockRange) (in_range (2 ^ 60) ms near)
    (ap (λ (h : RoomValue). is_full h.events) (sym is) ∙ in_range h.events event_end full)))
    (leads (slice_set old.rooms i h2) old.waits old.events (Some (ClockRefused RecordFull)) w (clocked w i c ms (Some RecordFull))
    (unset old.rooms i h h2 at u ∙ rooms_of old w e) (waits_of old w e) (events_of old w e) refl))

-- ---- a request

abbrev reply_in : Asked → Option Reply
reply_in (Now m) = Some m.value
reply_in (Held p) = None

reply_by : (h : RoomValue) (want : WantValue) (o : Option Reply) → reply_in (room.asked h want o) ≡ o
reply_by h want None = refl
reply_by h want (Some r) = refl

abbrev pub Answered : RoomValue → WantValue → Asked → Type 0
Answered h want a = (events : List Event) → Stands h events → a ≡ room.asked h want (at_once h.settings (held h.settings events) events want)

reply_here : (i : ℕ) (c : Channel) (h : RoomValue) (want : WantValue) (a : Asked) → h ≡ home_at i c → Answered h want a
    → at_once c.settings (held c.settings c.events) c.events want ≡ reply_in a
reply_here i c h want a is answer =
    ap (λ s. at_once s (held s c.events) c.events want) (sym (settings_of i c h is))
    ∙ sym (ap reply_in (answer c.events (stands_for i c h is)) ∙ reply_by h want (at_once h.settings (held h.settings c.events) c.events want))

abbrev held_in : Ticket → Asked → Ticket
held_in p (Now m) = p
held_in p (Held q) = q

ticket_by : (h : RoomValue) (want : WantValue) (p : Ticket) (o : Option Reply) → Held p ≡ room.asked h want o → p ≡ record { channel = h.channel; ticket = h.asks + 1 }
ticket_by h want p None e = ap (held_in p) e
ticket_by h want p (Some r) e = absurd (none_some r (ap reply_in e))

-- the value of a request that is held
pub held_is : (rooms : List RoomValue) (waits : List Wait) (i : ℕ) (h : RoomValue) (want : WantValue) (p : Ticket) → AreTied rooms waits → slice_get rooms i ≡ Some h → Answered h want (Held p)
    → p ≡ record { channel = i; ticket = h.asks + 1 }
held_is rooms waits i h want p tied at answer =
    channel_of rooms tied.channels i h tied.rooms_are at (λ d. p ≡ record { channel = i; ticket = h.asks + 1 })
    (λ c there is. ticket_by h want p (at_once h.settings (held h.settings c.events) c.events want) (answer c.events (stands_for i c h is))
    ∙ ap (λ n. record { channel = n; ticket = h.asks + 1 }) (number_is rooms waits i h tied at))

not_full : (i : ℕ) (c : Channel) (h : RoomValue) → h ≡ home_at i c → h.events < event_end → is_full (length c.events) ≡ false
not_full i c h is few = ap (λ (h : RoomValue). is_full h.events) (sym is) ∙ out_of_range h.events event_end few

pub asked_now : (n2 : ℕ) (old : Kept) (w : World) (owner : Owner) (i : ℕ) (want : WantValue) (m : StampedValue Reply) (h h2 : RoomValue) → n2 ≡ one_more old.events → old ≡ kept_world w → slice_get old.rooms i ≡ Some h → IsSame h h2
    → GoesOn h h2 (Ask want) → Answered h want (Now m) → h.events < event_end
    → Leads (record { rooms = slice_set old.rooms i h2; waits = old.waits; events = n2 }) (Some (Replied owner m.value)) w (ask owner i want w)
asked_now n2 old w owner i want m h h2 more e at same goes answer few =
    channel_of old.rooms w.channels i h (rooms_of old w e) at
    (λ d. Leads (record { rooms = slice_set old.rooms i h2; waits = old.waits; events = n2 }) (Some (Replied owner m.value)) w (ask_at w owner i want d))
    (λ c there is. subst (λ b. Leads (record { rooms = slice_set old.rooms i h2; waits = old.waits; events = n2 }) (Some (Replied owner m.value)) w (asked_if b w owner i c want))
    (sym (not_full i c h is few))
    (subst (λ o. Leads (record { rooms = slice_set old.rooms i h2; waits = old.waits; events = n2 }) (Some (Replied owner m.value)) w (asked w owner i c want o))
    (sym (reply_here i c h want (Now m) is answer))
    (leads (slice_set old.rooms i h2) old.waits n2 (Some (Replied owner m.value)) w (asked w owner i c want (Some m.value))
    (changed old.rooms w.channels i h h2 c (Ask want) (rooms_of old w e) is same goes) (waits_of old w e) (more_events n2 old w i c (Ask want) more e there refl) refl)))

pub asked_held : (n2 : ℕ) (old : Kept) (w : World) (owner : Owner) (i : ℕ) (want : WantValue) (p : Ticket) (h h2 : RoomValue) → n2 ≡ one_more old.events → old ≡ kept_world w → AreTied old.rooms old.waits → slice_get old.rooms i ≡ Some h → IsSame h h2
    → GoesOn h h2 (Ask want) → Answered h want (Held p) → h.events < event_end
    → Leads (record { rooms = slice_set old.rooms i h2; waits = old.waits ++ (record { owner = owner; place = p.channel; ticket = p.ticket }) ∷ []; events = n2 }) None w (ask owner i want w)
asked_held n2 old w owner i want p h h2 more e tied at same goes answer few =
    channel_of old.rooms w.channels i h (rooms_of old w e) at
    (λ d. Leads (record { rooms = slice_set old.rooms i h2; waits = old.waits ++ (record { owner = owner; place = p.channel; ticket = p.ticket }) ∷ []; events = n2 }) None w (ask_at w owner i want d))
    (λ c there is. subst (λ b. Leads (record { rooms = slice_set old.rooms i h2; waits = old.waits ++ (record { owner = owner; place = p.channel; ticket = p.ticket }) ∷ []; events = n2 }) None w (asked_if b w owner i c want))
    (sym (not_full i c h is few))
    (subst (λ o. Leads (record { rooms = slice_set old.rooms i h2; waits = old.waits ++ (record { owner = owner; place = p.channel; ticket = p.ticket }) ∷ []; events = n2 }) None w (asked w owner i c want o))
    (sym (reply_here i c h want (Held p) is answer))
    (leads (slice_set old.rooms i h2) (old.waits ++ (record { owner = owner; place = p.channel; ticket = p.ticket }) ∷ []) n2 None w (asked w owner i c want None)
    (changed old.rooms w.channels i h h2 c (Ask want) (rooms_of old w e) is same goes)
    (ap₂ (λ (xs : List Wait) (p : Ticket). xs ++ (record { owner = owner; place = p.channel; ticket = p.ticket }) ∷ []) (waits_of old w e)
    (held_is old.rooms old.waits i h want p tied at answer ∙ ap (λ (h : RoomValue). record { channel = i; ticket = h.asks + 1 }) is))
    (more_events n2 old w i c (Ask want) more e there refl) (stays old w e).answers)))

pub asked_full : (old : Kept) (w : World) (owner : Owner) (i : ℕ) (want : WantValue) (h h2 : RoomValue) → old ≡ kept_world w → slice_get old.rooms i ≡ Some h → h2 ≡ h → event_end ≤ h.events
    → Leads (record { rooms = slice_set old.rooms i h2; waits = old.waits; events = old.events }) (Some (Unavailable owner)) w (ask owner i want w)
asked_full old w owner i want h h2 e at u full =
    channel_of old.rooms w.channels i h (rooms_of old w e) at
    (λ d. Leads (record { rooms = slice_set old.rooms i h2; waits = old.waits; events = old.events }) (Some (Unavailable owner)) w (ask_at w owner i want d))
    (λ c there is. subst (λ b. Leads (record { rooms = slice_set old.rooms i h2; waits = old.waits; events = old.events }) (Some (Unavailable owner)) w (asked_if b w owner i c want))
    (sym (ap (λ (h : RoomValue). is_full h.events) (sym is) ∙ in_range h.events event_end full))
    (leads (slice_set old.rooms i h2) old.waits old.events (Some (Unavailable owner)) w (asked_if true w owner i c want)
    (unset old.rooms i h h2 at u ∙ rooms_of old w e) (waits_of old w e) (events_of old w e) refl))

-- ---- a reply that is due

-- a reply that is ready is that of a request that waits
pub ready_waits : (rooms : List RoomValue) (waits : List Wait) (i t : ℕ) (h : RoomValue) → AreTied rooms waits → slice_get rooms i ≡ Some h → first_ready h.slots ≡ Some t → is_some (under i t waits) ≡ true
ready_waits rooms waits i t h tied at ready = is_open_there rooms waits i t h tied at ∙ ready_open t h.slots ready

got_by : (p : Ticket) (o : Option Settled) (b : Bool) → is_some o ≡ true → room.is_got (room.collected_by p o b) ≡ true
got_by p None b h = absurd (true≢false (sym h))
got_by p (Some s) b h = refl

-- it is collected
pub gets : (rooms : List RoomValue) (waits : List Wait) (i t : ℕ) (h : RoomValue) (p : Ticket) → AreTied rooms waits → slice_get rooms i ≡ Some h → first_ready h.slots ≡ Some t
    → p ≡ record { channel = i; ticket = t } → room.is_got (room.collected h p) ≡ true
gets rooms waits i t h p tied at ready is =
    ap (λ p. room.is_got (room.collected h p)) is
    ∙ ap (λ b. room.is_got (if b then room.collected_by (record { channel = i; ticket = t }) (reply_at t h.slots) (room.is_open h t) else Stranger (record { channel = i; ticket = t })))
    (ap (λ n. i == n) (number_is rooms waits i h tied at) ∙ same_test i)
    ∙ got_by (record { channel = i; ticket = t }) (reply_at t h.slots) (room.is_open h t) (ready_reply t h.slots ready)

abbrev value_in : Collected → Option Reply
value_in (Got m) = Some m.value
value_in (Still p) = None
value_in (Stranger p) = None

value_by : (p : Ticket) (o : Option Settled) (b : Bool) → value_in (room.collected_by p o b) ≡ option_map reply_of o
value_by p None true = refl
value_by p None false = refl
value_by p (Some s) b = refl

handed_by : (p : Ticket) (o : Option Settled) (a b : Bool) (m : StampedValue Reply) → Got m ≡ (if a then room.collected_by p o b else Stranger p) → option_map reply_of o ≡ Some m.value
handed_by p o true b m e = sym (ap value_in e ∙ value_by p o b)
handed_by p o false b m e = absurd (none_some m.value (sym (ap value_in e)))

-- what is handed out
handed_is : (h : RoomValue) (p : Ticket) (m : StampedValue Reply) → Got m ≡ room.collected h p → option_map reply_of (reply_at p.ticket h.slots) ≡ Some m.value
handed_is h p m e = handed_by p (reply_at p.ticket h.slots) (p.channel == h.channel) (room.is_open h p.ticket) m e

due_by : (i t : ℕ) (c : Channel) (h : RoomValue) (o : Option Pending) → h ≡ home_at i c → first_ready h.slots ≡ Some t → first_due c.settings c.events ≡ o
    → (P : Option Pending → Type 0) → ((r : Pending) → first_due c.settings c.events ≡ Some r → r.ticket ≡ t → P (Some r)) → P o
due_by i t c h None is ready e P f =
    absurd (none_some t (sym (ap (λ o. option_map ticket_in (option_map (slot_of c.settings c.events) o)) e) ∙ sym (first_is c.settings c.events) ∙ ap (λ (h : RoomValue). first_ready h.slots) (sym is) ∙ ready))
due_by i t c h (Some r) is ready e P f =
    f r e (some_is r.ticket t (sym (ap (λ o. option_map ticket_in (option_map (slot_of c.settings c.events) o)) e) ∙ sym (first_is c.settings c.events) ∙ ap (λ (h : RoomValue). first_ready h.slots) (sym is) ∙ ready))

told_there : (old : Kept) (w : World) (i t : ℕ) (c : Channel) (h h2 : RoomValue) (x : Wait) (s : Settled) (r : Pending) → old ≡ kept_world w → h ≡ home_at i c → IsSame h h2 → GoesOn h h2 (Collect t)
    → slice_get w.channels i ≡ Some c → under i t old.waits ≡ Some x → reply_at t h.slots ≡ Some s → first_due c.settings c.events ≡ Some r → r.ticket ≡ t
    → Leads (record { rooms = slice_set old.rooms i h2; waits = without i t old.waits; events = old.events }) (Some (Replied x.owner (reply_of s))) w (told_to w i c r (under i r.ticket w.waits))
told_there old w i t c h h2 x s r e is same goes here found there due k =
    subst (λ o. Leads (record { rooms = slice_set old.rooms i h2; waits = without i t old.waits; events = old.events }) (Some (Replied x.owner (reply_of s))) w (told_to w i c r o))
    (sym (ap₂ (λ n xs. under i n xs) k (sym (waits_of old w e)) ∙ found))
    (subst (λ o. Leads (record { rooms = slice_set old.rooms i h2; waits = without i t old.waits; events = old.events }) (Some (Replied x.owner (reply_of s))) w
    (waits_less (told (happens w i c (Collect r.ticket)) x.owner o) i r.ticket))
    (sym (sym (reply_is c.settings c.events r due) ∙ ap₂ (λ n (h : RoomValue). reply_at n h.slots) k (sym is) ∙ there))
    (leads (slice_set old.rooms i h2) (without i t old.waits) old.events (Some (Replied x.owner (reply_of s))) w (waits_less (told (happens w i c (Collect r.ticket)) x.owner (Some s)) i r.ticket)
    (changed old.rooms w.channels i h h2 c (Collect t) (rooms_of old w e) is same goes ∙ ap (λ n. room_values_from 0 (slice_set w.channels i (with_event (Collect n) c))) (sym k))
    (ap₂ (λ n xs. without i n xs) (sym k) (waits_of old w e)) (same_events old w i c (Collect r.ticket) e here refl) refl))

-- the first reply of a channel that is due is handed out
pub ticked : (old : Kept) (w : World) (i t : ℕ) (h h2 : RoomValue) (p : Ticket) (m : StampedValue Reply) (x : Wait) → old ≡ kept_world w → slice_get old.rooms i ≡ Some h → IsSame h h2
    → GoesOn h h2 (Collect p.ticket) → p.ticket ≡ t → first_ready h.slots ≡ Some t → under i t old.waits ≡ Some x → Got m ≡ room.collected h p
    → Leads (record { rooms = slice_set old.rooms i h2; waits = without i t old.waits; events = old.events }) (Some (Replied x.owner m.value)) w (next_reply i w)
ticked old w i t h h2 p m x e at same goes pt ready found handed =
    channel_of old.rooms w.channels i h (rooms_of old w e) at
    (λ d. Leads (record { rooms = slice_set old.rooms i h2; waits = without i t old.waits; events = old.events }) (Some (Replied x.owner m.value)) w (next_reply_at w i d))
    (λ c there is. due_by i t c h (first_due c.settings c.events) is ready refl
    (λ o. Leads (record { rooms = slice_set old.rooms i h2; waits = without i t old.waits; events = old.events }) (Some (Replied x.owner m.value)) w (next_reply_of w i c o))
    (λ r due k. by_reply c there is r due k (reply_at t h.slots) refl (ap (λ n. option_map reply_of (reply_at n h.slots)) (sym pt) ∙ handed_is h p m handed)))
  where
    by_reply : (c : Channel) → slice_get w.channels i ≡ Some c → h ≡ home_at i c → (r : Pending) → first_due c.settings c.events ≡ Some r → r.ticket ≡ t → (o : Option Settled) → reply_at t h.slots ≡ o → option_map reply_of o ≡ Some m.value
        → Leads (record { rooms = slice_set old.rooms i h2; waits = without i t old.waits; events = old.events }) (Some (Replied x.owner m.value)) w (told_to w i c r (under i r.ticket w.waits))
    by_reply c here is r due k None there v = absurd (none_some m.value v)
    by_reply c here is r due k (Some s) there v =
        subst (λ v. Leads (record { rooms = slice_set old.rooms i h2; waits = without i t old.waits; events = old.events }) (Some (Replied x.owner v)) w (told_to w i c r (under i r.ticket w.waits)))
        (some_is (reply_of s) m.value v)
        (told_there old w i t c h h2 x s r e is same (subst (λ n. GoesOn h h2 (Collect n)) pt goes) here found there due k)

idle_by : (c : Configuration) (events : List Event) (o : Option Pending) → first_due c events ≡ o → first_ready (state_of c events).slots ≡ None → (P : Option Pending → Type 0) → P None → P o
idle_by c events None e idle P p = p
idle_by c events (Some r) e idle P p =
    absurd (none_some r.ticket (sym idle ∙ first_is c events ∙ ap (λ o. option_map ticket_in (option_map (slot_of c events) o)) e))

-- nothing is due
pub idle : (old : Kept) (w : World) (i : ℕ) (h h2 : RoomValue) → old ≡ kept_world w → slice_get old.rooms i ≡ Some h → h2 ≡ h → first_ready h.slots ≡ None
    → Leads (record { rooms = slice_set old.rooms i h2; waits = old.waits; events = old.events }) None w (next_reply i w)
idle old w i h h2 e at u none =
    channel_of old.rooms w.channels i h (rooms_of old w e) at
    (λ d. Leads (record { rooms = slice_set old.rooms i h2; waits = old.waits; events = old.events }) None w (next_reply_at w i d))
    (λ c there is. idle_by c.settings c.events (first_due c.settings c.events) refl (ap (λ (h : RoomValue). first_ready h.slots) (sym is) ∙ none)
    (λ o. Leads (record { rooms = slice_set old.rooms i h2; waits = old.waits; events = old.events }) None w (next_reply_of w i c o))
    (leads (slice_set old.rooms i h2) old.waits old.events None w w (unset old.rooms i h h2 at u ∙ rooms_of old w e) (waits_of old w e) (events_of old w e) (stays old w e).answers))

pub still_nowhere : (old : Kept) (w : World) (i : ℕ) → old ≡ kept_world w → slice_get old.rooms i ≡ None → next_reply i w ≡ w
still_nowhere old w i e at = no_channel old.rooms w.channels i (rooms_of old w e) at (λ d. next_reply_at w i d ≡ w) refl

pub still_idle : (old : Kept) (w : World) (i : ℕ) (h : RoomValue) → old ≡ kept_world w → slice_get old.rooms i ≡ Some h → first_ready h.slots ≡ None → next_reply i w ≡ w
still_idle old w i h e at none =
    channel_of old.rooms w.channels i h (rooms_of old w e) at (λ d. next_reply_at w i d ≡ w)
    (λ c there is. idle_by c.settings c.events (first_due c.settings c.events) refl (ap (λ (h : RoomValue). first_ready h.slots) (sym is) ∙ none) (λ o. next_reply_of w i c o ≡ w) refl)

-- ---- a request is closed

-- a request that waits is open in its room
pub closes : (rooms : List RoomValue) (waits : List Wait) (i t : ℕ) (h : RoomValue) (p : Ticket) → AreTied rooms waits → slice_get rooms i ≡ Some h → is_some (under i t waits) ≡ true
    → p ≡ record { channel = i; ticket = t } → room.is_done (room.closed h p) ≡ true
closes rooms waits i t h p tied at found is =
    ap (λ p. room.is_done (room.closed h p)) is
    ∙ ap₂ (λ a b. room.is_done (if a && b then given_up.Done else given_up.Stranger (record { channel = i; ticket = t }))) (ap (λ n. i == n) (number_is rooms waits i h tied at) ∙ same_test i) (sym (is_open_there rooms waits i t h tied at) ∙ found)

pub gave_up : (n2 : ℕ) (old : Kept) (w : World) (x : Wait) (h h2 : RoomValue) (p : Ticket) → n2 ≡ one_more old.events → old ≡ kept_world w → slice_get old.rooms x.place ≡ Some h → IsSame h h2
    → GoesOn h h2 (Close p.ticket) → p.ticket ≡ x.ticket
    → Leads (record { rooms = slice_set old.rooms x.place h2; waits = without x.place x.ticket old.waits; events = n2 }) None w (close_at w x (slice_get w.channels x.place))
gave_up n2 old w x h h2 p more e at same goes pt =
    channel_of old.rooms w.channels x.place h (rooms_of old w e) at
    (λ d. Leads (record { rooms = slice_set old.rooms x.place h2; waits = without x.place x.ticket old.waits; events = n2 }) None w (close_at w x d))
    (λ c there is. leads (slice_set old.rooms x.place h2) (without x.place x.ticket old.waits) n2 None w (close_at w x (Some c))
    (changed old.rooms w.channels x.place h h2 c (Close x.ticket) (rooms_of old w e) is same (subst (λ n. GoesOn h h2 (Close n)) pt goes))
    (ap (λ xs. without x.place x.ticket xs) (waits_of old w e)) (more_events n2 old w x.place c (Close x.ticket) more e there refl) (stays old w e).answers)

some_found : {X : Type 0} (q : X → Bool) (x y : X) (b : Bool) (o : Option X) → is_some o ≡ true → is_some (cond b (Some y) o) ≡ true
some_found q x y true o h = refl
some_found q x y false o h = h

this_found : {X : Type 0} (p q : X → Bool) (x y : X) (a b : Bool) (o o2 : Option X) → q y ≡ b → cond a (Some y) o ≡ Some x → q x ≡ true → (o ≡ Some x → is_some o2 ≡ true) → is_some (cond b (Some y) o2) ≡ true
this_found p q x y true b o o2 e h k ih = ap (λ b. is_some (cond b (Some y) o2)) (sym e ∙ ap q (some_is y x h) ∙ k)
this_found p q x y false b o o2 e h k ih = some_found q x y b o2 (ih h)

found_too : {X : Type 0} (p q : X → Bool) (x : X) (xs : List X) → find p xs ≡ Some x → q x ≡ true → is_some (find q xs) ≡ true
found_too p q x [] h k = absurd (none_some x h)
found_too p q x (y ∷ xs) h k = this_found p q x y (p y) (q y) (find p xs) (find q xs) refl h k (λ f. found_too p q x xs f k)

pub own_test : (x : Wait) → is_under x.place x.ticket x ≡ true
own_test x = ap₂ (λ a b. a && b) (same_test x.place) (same_test x.ticket)

-- a request that is found by its number waits under its ticket
pub id_waits : (owner : Owner) (x : Wait) (waits : List Wait) → wait_of owner waits ≡ Some x → is_some (under x.place x.ticket waits) ≡ true
id_waits owner x waits h = found_too (is_of owner) (is_under x.place x.ticket) x waits h (own_test x)

-- the first of all waits under its ticket
pub first_waits : (x : Wait) (waits : List Wait) → slice_get waits 0 ≡ Some x → is_some (under x.place x.ticket waits) ≡ true
first_waits x [] h = absurd (none_some x h)
first_waits x (y ∷ xs) h = found_too (λ z. true) (is_under x.place x.ticket) x (y ∷ xs) h (own_test x)

-- ---- a channel is declared

homes_length : (n : ℕ) (cs : List Channel) → length (room_values_from n cs) ≡ length cs
homes_length n [] = refl
homes_length n (c ∷ cs) = ap suc (homes_length (n + 1) cs)

room_is : (rooms : List RoomValue) (cs : List Channel) (s : Configuration) (h : RoomValue) → rooms ≡ room_values_from 0 cs → h ≡ room_value (length rooms) s (state_of s [])
    → rooms ++ h ∷ [] ≡ room_values_from 0 (cs ++ (record { settings = s; events = [] }) ∷ [])
room_is rooms cs s h are is =
    ap₂ (λ rs k. rs ++ k ∷ []) are is
    ∙ homes_more 0 cs (record { settings = s; events = [] }) (length rooms) (ap length are ∙ homes_length 0 cs ∙ sym (no_more (length cs)))

pub declared : (old : Kept) (w : World) (s : Configuration) (h : RoomValue) → old ≡ kept_world w → h ≡ room_value (length old.rooms) s (state_of s [])
    → Leads (record { rooms = old.rooms ++ h ∷ []; waits = old.waits; events = old.events }) None w (declare s w)
declared old w s h e is =
    leads (old.rooms ++ h ∷ []) old.waits old.events None w (declare s w) (room_is old.rooms w.channels s h (rooms_of old w e) is) (waits_of old w e) (events_of old w e ∙ ap (λ n. min n count_end) (none_brought s w.channels)) (stays old w e).answers

get_more : (xs : List RoomValue) (h : RoomValue) (j : ℕ) → tickets h ≡ [] → open_in (slice_get (xs ++ h ∷ []) j) ≡ open_in (slice_get xs j)
get_more [] h zero e = e
get_more [] h (suc j) e = refl
get_more (x ∷ xs) h zero e = refl
get_more (x ∷ xs) h (suc j) e = get_more xs h j e

pub tied_new : (rooms : List RoomValue) (waits : List Wait) (s : Configuration) (h : RoomValue) → AreTied rooms waits → h ≡ room_value (length rooms) s (state_of s []) → AreTied (rooms ++ h ∷ []) waits
tied_new rooms waits s h tied is = record {
  channels = tied.channels ++ (record { settings = s; events = [] }) ∷ [];
  rooms_are = room_is rooms tied.channels s h tied.rooms_are is;
  opened = λ j. tied.opened j ∙ sym (get_more rooms h j (ap tickets is));
  distinct = tied.distinct;
}

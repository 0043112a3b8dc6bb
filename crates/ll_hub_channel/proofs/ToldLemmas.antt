-- What a room's answers say of the events that it stands for.
use Rattle.std.proofs.Common.{◌≡◌, ◌≢◌, ℕ, ◌+◌, ◌*◌, ◌≤◌, ◌<◌, ◌==◌, ◌&&◌, ◌||◌, List, [], ◌∷◌, ◌++◌, Bool, true, false, not, cond, Option, Some, None, MatchOption, is_some, refl, ap, ap₂, ◌∙◌, sym, subst, filter, find, length, map, option_and_then, option_map, slice_get, suc, arith}
use Rattle.std.proofs.lemmas.Bool.Decides.{nat_tests}
use Rattle.std.proofs.lemmas.List.{append_cancel_right, map-append}
use Rattle.std.specs.List.{list_any}
use Rattle.ll_verdict.specs.Waiting.{entry_in, found, has_ticket, is_ready_at, reply_at, settled_in, ticket_in}
use Rattle.ll_directive.specs.Targets.{WantValue}
use Rattle.ll_settings.specs.Settings.{Configuration}
use Rattle.ll_item.specs.declared.item.Item.{Item}
use Rattle.ll_record.specs.Recording.{IsRecorded, Recording, is_record_full, of_channel, record_refusal}
use Rattle.ll_room.proofs.TicketLemmas.{distinct_less, distinct_more, newest_is_new}
use Rattle.ll_room.specs.Answers as room
use Rattle.ll_verdict.specs.Full.{full_by, refusal_after}
use Rattle.ll_room.specs.RoomValue.{AreDistinct, RoomValue, IsSame, Stands, among, less, tickets}
use Rattle.ll_room.specs.StampedValue.{StampedValue}
use Rattle.ll_room.specs.Ticket.{Ticket}
use Rattle.ll_room.specs.declared.asked.Asked.{Asked}
use Rattle.ll_room.specs.declared.asked.Asked.TheVariants.{Now, Held}
use Rattle.ll_room.specs.declared.asked.Closed.TheVariants as given_up
use Rattle.ll_room.specs.declared.asked.Collected.TheVariants.{Got}
use Rattle.ll_room.specs.declared.stamped.Stamp.TheVariants as stamp
use Rattle.ll_rendition.specs.declared.fault.PublishFault.{PublishFault}
use Rattle.ll_rendition.specs.declared.fault.PublishFault.TheVariants as fault
use Rattle.ll_verdict.proofs.StateLemmas.{state-snoc, at_once-is}
use Rattle.ll_verdict.specs.Events.{Event, Ask, items}
use Rattle.ll_verdict.specs.Standing.{standing}
use Rattle.ll_verdict.specs.State.{State, answer_of, gone, new_slots, settle, stays, waiting_in, open_requests, slot_by, slot_of, state_of}
use Rattle.ll_verdict.specs.Verdict as verdict
use Rattle.ll_verdict.specs.Verdict.{at_once, held, reply_of, wanted_of}
use Rattle.ll_verdict.specs.declared.entry.Entry.{Entry}
use Rattle.ll_verdict.specs.declared.entry.Slot.{Slot}
use Rattle.ll_verdict.specs.declared.reply.Reply.{Reply}
use Rattle.ll_verdict.specs.declared.reply.Reply.TheVariants.{NotFound}
use Rattle.ll_verdict.specs.declared.reply.Settled.{Settled}
use Rattle.ll_verdict.specs.declared.standing.Standing.{Standing}
use Rattle.ll_verdict.specs.declared.wanted.Wanted.{Wanted}
use Rattle.ll_hub_channel.proofs.CountLemmas.{asks-is, count-is, none_before}
use Rattle.ll_hub_channel.specs.Channel.{IsChannel, parked_for, ticket_at}
use Rattle.ll_hub_channel.specs.Section.{IsAsCounted, IsAskedBy, IsMet}
use Rattle.ll_hub_channel.specs.Told.{HasToWait, IsAccepted, IsDecided, IsHeld, IsRefused, IsStanding}
use Rattle.ll_hub_channel.specs.declared.channel.AtOnce.TheVariants as told

-- ---- items

pub accepted : (r : Recording) (es : List Event) (i : Item) (seen n : ℕ) → IsRecorded r es → record_refusal r es i ≡ None → seen ≤ r.room.count → n ≡ r.room.count + 1
    → IsAccepted r.room.settings es i seen n
accepted r es i seen n recorded free later is = record {
  allowed = none_before (refusal_after r.room.settings es i) (full_by (is_record_full r)) free;
  counted = is ∙ ap (λ k. k + 1) (count-is r.room es recorded.stands);
  later = omega (arith, later, is);
}

-- an item that a rule refuses, or that finds no memory
pub refused : (r : Recording) (es : List Event) (i : Item) (seen : ℕ) (f : PublishFault) → IsRecorded r es → seen ≤ r.room.count
    → (f ≢ fault.Memory → record_refusal r es i ≡ Some f) → (f ≡ fault.Memory → record_refusal r es i ≡ None) → IsRefused r.room.settings es (is_record_full r) i seen f
refused r es i seen f recorded later rule memory =
    record { rule = rule; memory = memory; later = subst (λ n. seen ≤ n) (count-is r.room es recorded.stands) later }

-- ---- places

-- what a room says of a rendition's place, after some events
abbrev pub Places : RoomValue → List Event → ℕ → Option Standing → Type 0
Places h es rendition o =
    MatchOption o (length h.settings.renditions ≤ rendition) (λ s. (rendition < length h.settings.renditions) × (s ≡ standing h.settings (items h.settings es) rendition))

placed : (r : Recording) (es : List Event) (rendition : ℕ) (o : Option Standing) → IsRecorded r es → Places r.room es rendition o
    → MatchOption o (length r.room.settings.renditions ≤ rendition) (IsStanding r.room.settings es rendition r.room.count)
placed r es rendition None recorded none = none
placed r es rendition (Some s) recorded told =
    let count = count-is r.room es recorded.stands in
    let same = ap (λ (x : Standing). x.count) told.1 in
    let later : r.room.count ≤ s.count = omega (arith, count, same) in
    record { there = told.0; stands = told.1; later = later }

-- where a rendition stands after the events that are recorded, as the recorder's room says
pub stands-there : (r : Recording) (h : RoomValue) (es : List Event) (rendition : ℕ) (o : Option Standing) → h ≡ r.room → IsRecorded r es
    → (Stands h es → Places h es rendition o) → MatchOption o (length r.room.settings.renditions ≤ rendition) (IsStanding r.room.settings es rendition r.room.count)
stands-there r h es rendition o at recorded told =
    placed r es rendition o recorded (subst (λ k. Stands k es → Places k es rendition o) at told recorded.stands)

-- the same in the room that the caller has met
pub met-stands : (r : Recording) (place : ℕ) (c : Configuration) (es : List Event) (seen rendition : ℕ) (o : Option Standing) → IsMet r place c seen
    → MatchOption o (length r.room.settings.renditions ≤ rendition) (IsStanding r.room.settings es rendition r.room.count)
    → MatchOption o (length c.renditions ≤ rendition) (IsStanding c es rendition seen)
met-stands r place c es seen rendition None met none = subst (λ (s : Configuration). length s.renditions ≤ rendition) met.settings none
met-stands r place c es seen rendition (Some s) met there =
    let later : seen ≤ s.count = omega (arith, met.later, there.later) in
    subst (λ k. IsStanding k es rendition seen s) met.settings (record { there = there.there; stands = there.stands; later = later })

-- ---- requests

-- the room that was met is still met if no more was counted
pub still-met : (r r1 : Recording) (place : ℕ) (c : Configuration) (seen : ℕ) → IsAsCounted r r1 → IsSame r.room r1.room → IsMet r place c seen → IsMet r1 place c seen
still-met r r1 place c seen counts same met =
    record { number = same.channel ∙ met.number; settings = same.settings ∙ met.settings; later = omega (arith, met.later, counts.publishes) }

-- an answer at once
record IsNow (h : RoomValue) (want : WantValue) (o : Option Reply) (m : StampedValue Reply) : Type 0 where
  reply : o ≡ Some m.value
  room : m.room ≡ h.channel
  stamp : m.stamp ≡ stamp.Ask (h.asks + 1) want

now_by : (h : RoomValue) (want : WantValue) (o : Option Reply) (m : StampedValue Reply) → Now m ≡ room.asked h want o → IsNow h want o m
now_by h want o m e = record { reply = grind arith; room = grind arith; stamp = grind arith }

record IsWaiting (h : RoomValue) (o : Option Reply) (p : Ticket) : Type 0 where
  reply : o ≡ None
  channel : p.channel ≡ h.channel
  ticket : p.ticket ≡ h.asks + 1

waiting_by : (h : RoomValue) (want : WantValue) (o : Option Reply) (p : Ticket) → Held p ≡ room.asked h want o → IsWaiting h o p
waiting_by h want o p e = record { reply = grind arith; channel = grind arith; ticket = grind arith }

abbrev Answers : RoomValue → WantValue → List Event → Asked → Type 0
Answers h want events a = a ≡ room.asked h want (at_once h.settings (held h.settings events) events want)

pub asks-now : (r : Recording) (es : List Event) (place : ℕ) (c : Configuration) (seen : ℕ) (want : WantValue) (m : StampedValue Reply) → Stands r.room es → IsMet r place c seen
    → Answers r.room want es (Now m) → IsAskedBy place c es seen want (told.Now m)
asks-now r es place c seen want m st met a =
    let h = r.room in
    let n = now_by h want (at_once h.settings (held h.settings es) es want) m a in
    rw (← met.settings) (
      n.room ∙ met.number,
      n.stamp ∙ ap (λ k. stamp.Ask (k + 1) want) (asks-is h es st),
      record { answer = n.reply; number = refl; later = subst (λ k. seen ≤ k) (count-is h es st) met.later },
    )

-- ---- a request that is held: it is the last one that is open

found_last : (t : ℕ) (ss : List Slot) (last : Slot) → last.entry.ticket ≡ t → among t (map ticket_in ss) ≡ false → find (has_ticket t) (ss ++ last ∷ []) ≡ Some last
found_last t [] last e h = grind (arith, nat_tests)
found_last t (s ∷ ss) last e h = grind (arith, nat_tests, found_last t ss last e)

-- what stands for a request that has to wait
abbrev waiting_slot : Configuration → State → Wanted → Slot
waiting_slot c st a = record {
  entry = record { ticket = st.asks + 1; wanted = a; seen = length st.items; deadline = st.time + 3000 * c.target };
  settled = None;
}

slot_case : (c : Configuration) (st : State) (want : WantValue) (o : Option Wanted) → wanted_of c want ≡ o → answer_of c st want ≡ None
    → (a : Wanted) × (wanted_of c want ≡ Some a) × (new_slots c st (Ask want) ≡ waiting_slot c st a ∷ [])
slot_case c st want None e none = let found : Some NotFound ≡ None = ap (verdict.reply_by c (waiting_in st.slots) st.items) (sym e) ∙ none in cc
slot_case c st want (Some a) e none = (a, e, ap₂ (λ x y. slot_by c x st y) none e)

-- the newest of some open requests is found under its ticket
newest_found : (t : ℕ) (before : List ℕ) (ss : List Slot) (s : Slot) → s.entry.ticket ≡ t → map ticket_in (ss ++ s ∷ []) ≡ before ++ t ∷ []
    → less t (before ++ t ∷ []) ≡ before → found t (ss ++ s ∷ []) ≡ Some s.entry
newest_found t before ss s e opened newest =
    let same : map ticket_in ss ≡ before =
    append_cancel_right (map ticket_in ss) before (t ∷ []) (ap (λ n. map ticket_in ss ++ n ∷ []) (sym e) ∙ sym (map-append ticket_in ss (s ∷ [])) ∙ opened) in
    ap (option_map entry_in) (found_last t ss s e (ap (among t) same ∙ newest_is_new t before newest))

-- the result of a room's request
pub record IsMade (h : RoomValue) (r2 : Recording) (es : List Event) (want : WantValue) (a : Asked) : Type 0 where
  pub answer : Answers h want es a
  pub recorded : IsRecorded r2 (es ++ Ask (of_channel h.settings want) ∷ [])
  pub same : IsSame h r2.room
  pub opened : tickets r2.room ≡ tickets h ++ room.new_tickets a
  pub newest : room.others a (tickets r2.room) ≡ tickets h

-- what is kept of a request that is held, and what its caller gets
pub record IsKept (h2 : RoomValue) (p : Ticket) (c : Configuration) (es : List Event) (want : WantValue) : Type 0 where
  pub entry : Entry
  pub found_it : found p.ticket h2.slots ≡ Some entry
  pub waits : HasToWait c es want entry

pub asks-held : (h : RoomValue) (r2 : Recording) (es : List Event) (want : WantValue) (p : Ticket) → Stands h es → IsMade h r2 es want (Held p) → IsKept r2.room p h.settings es want
asks-held h r2 es want p st made =
    let c = h.settings in
    let h2 = r2.room in
    let s = state_of c es in
    let w = waiting_by h want (at_once c (held c es) es want) p made.answer in
    let free : answer_of c s want ≡ None = sym (at_once-is c es want) ∙ w.reply in
    let k = slot_case c s want (wanted_of c want) refl free in
    let slot = waiting_slot c s k.0 in
    let others = map (settle c s.items s.time) (filter (stays (Ask want)) s.slots) in
    let ticket : s.asks + 1 ≡ p.ticket = ap (λ n. n + 1) (sym (asks-is h es st)) ∙ sym w.ticket in
    let slots : h2.slots ≡ others ++ slot ∷ [] =
    ap (λ (h : RoomValue). h.slots) made.recorded.stands ∙ ap (λ k. (state_of k (es ++ Ask (of_channel c want) ∷ [])).slots) made.same.settings
    ∙ ap (λ (s : State). s.slots) (state-snoc c es (Ask (of_channel c want))) ∙ ap (λ ss. others ++ ss) k.2 in
    record {
      entry = slot.entry;
      found_it = ap (found p.ticket) slots
          ∙ newest_found p.ticket (tickets h) others slot ticket (ap (map ticket_in) (sym slots) ∙ made.opened) (ap (less p.ticket) (sym made.opened) ∙ made.newest);
      waits = record { answer = w.reply; wanted = k.1; number = refl; seen = refl; deadline = refl };
    }

-- the request that is found under the ticket is that one
pub held-entry : (h2 : RoomValue) (p : Ticket) (c : Configuration) (es : List Event) (want : WantValue) (t : ℕ) (entry : Entry) → IsKept h2 p c es want → t ≡ p.ticket
    → Some entry ≡ found t h2.slots → HasToWait c es want entry
held-entry h2 p c es want t entry k e is = let same : k.entry ≡ entry = cc in rw same at k.waits

-- and the caller had seen no more
pub asks-later : (r : Recording) (es : List Event) (place : ℕ) (c : Configuration) (seen : ℕ) (want : WantValue) (entry : Entry) → Stands r.room es → IsMet r place c seen
    → HasToWait r.room.settings es want entry → IsHeld c es want seen entry
asks-later r es place c seen want entry st met w =
    subst (λ c. IsHeld c es want seen entry) met.settings
    (record { waits = w; later = subst (λ n. seen ≤ n) (count-is r.room es st ∙ sym w.seen) met.later })

-- the value of a request that is held lies beside the others
pub kept-beside : (r r2 : Recording) (want : WantValue) (p : Ticket) (ps qs : List Ticket) (k : IsChannel r ps) → IsMade r.room r2 k.events want (Held p)
    → qs ≡ ps ++ p ∷ [] → IsChannel r2 qs
kept-beside r r2 want p ps qs k made is =
    let h = r.room in
    let w = waiting_by h want (at_once h.settings (held h.settings k.events) k.events want) p made.answer in
    record {
      events = k.events ++ Ask (of_channel h.settings want) ∷ [];
      recorded = made.recorded;
      each = is ∙ ap₂ (λ ps q. ps ++ q ∷ []) k.each (ap (λ n. ticket_at n p.ticket) w.channel) ∙ sym (map-append (ticket_at h.channel) (tickets h) (p.ticket ∷ []))
          ∙ ap₂ parked_for (sym made.same.channel) (sym made.opened);
      distinct = subst AreDistinct (sym made.opened)
          (distinct_more p.ticket (tickets h) k.distinct (newest_is_new p.ticket (tickets h) (ap (less p.ticket) (sym made.opened) ∙ made.newest)));
    }

-- the open requests stay
pub stays-beside : (r r2 : Recording) (es : List Event) (ps : List Ticket) → IsChannel r ps → IsRecorded r2 es → IsSame r.room r2.room → tickets r2.room ≡ tickets r.room
    → IsChannel r2 ps
stays-beside r r2 es ps k recorded same still = record {
  events = es;
  recorded = recorded;
  each = k.each ∙ ap₂ parked_for (sym same.channel) (sym still);
  distinct = subst AreDistinct (sym still) k.distinct;
}

-- one leaves
pub left-beside : (r r2 : Recording) (es : List Event) (t : ℕ) (ps qs : List Ticket) → IsChannel r ps → IsRecorded r2 es → IsSame r.room r2.room
    → tickets r2.room ≡ less t (tickets r.room) → qs ≡ parked_for r.room.channel (less t (tickets r.room)) → IsChannel r2 qs
left-beside r r2 es t ps qs k recorded same fewer is = record {
  events = es;
  recorded = recorded;
  each = is ∙ ap₂ parked_for (sym same.channel) (sym fewer);
  distinct = subst AreDistinct (sym fewer) (distinct_less t (tickets r.room) k.distinct);
}

-- ---- an open request and its ticket

pub open-among : (t : ℕ) (ss : List Slot) → list_any (has_ticket t) ss ≡ among t (map ticket_in ss)
open-among t [] = refl
open-among t (s ∷ ss) = ap (λ b. (s.entry.ticket == t) || b) (open-among t ss)

pub among-open : (t : ℕ) (ss : List Slot) (e : Entry) → found t ss ≡ Some e → among t (map ticket_in ss) ≡ true
among-open t [] e h = cc
among-open t (s ∷ ss) e h = grind (arith, nat_tests, among-open t ss e)

pub among-ready : (t : ℕ) (ss : List Slot) (e : Entry) → option_map entry_in (find (is_ready_at t) ss) ≡ Some e → among t (map ticket_in ss) ≡ true
among-ready t [] e h = cc
among-ready t (s ∷ ss) e h = grind (arith, nat_tests, among-ready t ss e)

-- a value is taken out if one is open
pub none-missing : (b : Bool) (p : Ticket) → b ≡ true → None ≡ cond b (Some p) None → ⊥
none-missing b p e h = cc

pub the-value : (b : Bool) (p q : Ticket) → b ≡ true → Some q ≡ cond b (Some p) None → q ≡ p
the-value b p q e h = cc

-- a request that is closed
pub closes : (h : RoomValue) (p : Ticket) (t : ℕ) → p ≡ ticket_at h.channel t → among t (tickets h) ≡ true → room.closed h p ≡ given_up.Done
closes h p t is open_is = grind (arith, nat_tests, open-among t h.slots)

-- ---- a reply that is handed out

-- the first element that passes p whose slot passes q
find_in : {X : Type 0} (f : X → Slot) (p : X → Bool) (q : Slot → Bool) (s : Slot) (xs : List X) → find q (map f (filter p xs)) ≡ Some s
    → (i : ℕ) × (y : X) × (slice_get xs i ≡ Some y) × (f y ≡ s) × (q s ≡ true)
find_in f p q s [] h = cc
find_in {X} f p q s (x ∷ xs) h = by (p x) (q (f x)) refl (find_in f p q s xs) h
  where
    by : (b c : Bool) → q (f x) ≡ c → (find q (map f (filter p xs)) ≡ Some s → (i : ℕ) × (y : X) × (slice_get xs i ≡ Some y) × (f y ≡ s) × (q s ≡ true))
        → find q (map f (cond b (x ∷ filter p xs) (filter p xs))) ≡ Some s → (i : ℕ) × (y : X) × (slice_get (x ∷ xs) i ≡ Some y) × (f y ≡ s) × (q s ≡ true)
    by true true e ih h = (0, x, refl, grind arith, grind arith)
    by true false e ih h = let r = ih (grind arith) in (suc r.0, r.1, r.2, r.3, r.4)
    by false c e ih h = let r = ih h in (suc r.0, r.1, r.2, r.3, r.4)

-- the slot of a ready request, and its reply
ready_slot : (t : ℕ) (o : Option Slot) (e : Entry) → option_map entry_in o ≡ Some e → (s : Slot) × (o ≡ Some s) × (s.entry ≡ e)
ready_slot t None e h = cc
ready_slot t (Some s) e h = (s, refl, cc)

its_reply : (b : Bool) (o : Option Settled) → (b && is_some o) ≡ true → (v : Settled) × (o ≡ Some v)
its_reply b None h = grind arith
its_reply b (Some v) h = (v, refl)

-- what is handed out for a ready request
pub record IsHanded (h : RoomValue) (es : List Event) (entry : Entry) : Type 0 where
  pub answer : Settled
  pub got : room.collected h (ticket_at h.channel entry.ticket) ≡ Got (room.collected_at h entry.ticket answer)
  pub decided : IsDecided h.settings es entry (reply_of answer)

pub handed : (h : RoomValue) (es : List Event) (entry : Entry) → Stands h es → option_map entry_in (find (is_ready_at entry.ticket) h.slots) ≡ Some entry → IsHanded h es entry
handed h es entry st ready =
    let c = h.settings in
    let t = entry.ticket in
    let s = ready_slot t (find (is_ready_at t) h.slots) entry ready in
    let slots : h.slots ≡ map (slot_of c es) (open_requests c es) = ap (λ (h : RoomValue). h.slots) st in
    let r = find_in (slot_of c es) (λ r. not (gone c es r)) (is_ready_at t) s.0 (held c es) (ap (find (is_ready_at t)) (sym slots) ∙ s.1) in
    let v = its_reply (s.0.entry.ticket == t) s.0.settled r.4 in
    let told : reply_at t h.slots ≡ Some v.0 = ap (option_and_then settled_in) s.1 ∙ v.1 in
    let own : (h.channel == h.channel) ≡ true = grind (arith, nat_tests) in
    record {
      answer = v.0;
      got = rw (own, told);
      decided = record {
        request = r.1;
        place = r.0;
        waited = r.2;
        entry = ap entry_in r.3 ∙ s.2;
        answer = v.0;
        decided = ap settled_in r.3 ∙ v.1;
        told = refl;
      };
    }

-- what is handed out is its reply
pub tried : (h : RoomValue) (es : List Event) (place : ℕ) (c : Configuration) (e : Entry) (m : StampedValue Reply) (k : IsHanded h es e) → Got m ≡ Got (room.collected_at h e.ticket k.answer)
    → h.channel ≡ place → h.settings ≡ c → (m.room ≡ place) × (m.stamp ≡ stamp.Collect e.ticket) × IsDecided c es e m.value
tried h es place c e m k is here same =
    let value : m ≡ room.collected_at h e.ticket k.answer = cc in
    rw (value, ← here, ← same) (refl, refl, k.decided)

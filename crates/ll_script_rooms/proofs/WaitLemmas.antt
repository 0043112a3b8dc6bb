-- At each moment of a script the requests that wait in a channel are its open requests, in the same order.
use Rattle.std.proofs.Common.{◌≡◌, ℕ, zero, suc, ◌+◌, ◌<◌, ◌≤◌, ◌*◌, ◌==◌, ◌&&◌, ◌||◌, List, [], ◌∷◌, ◌++◌, Bool, true, false, not, Option, Some, None, is_none, is_some, length, filter, map, if◌then◌else◌, refl, ap, ap₂, ◌∙◌, sym, subst, slice_get, slice_set, append-nil, arith}
use Rattle.std.specs.List.{list_any}
use Rattle.std.proofs.lemmas.Bool.Decides.{nat_tests}
use Rattle.std.proofs.lemmas.List.{map-append}
use Rattle.ll_verdict.specs.Waiting.{AreBelow, IsRising, reply_at, ticket_in}
use Rattle.ll_script_rooms.proofs.Rising.{alone, rising-filter, rising-park}
use Rattle.ll_directive.specs.Targets.{WantValue}
use Rattle.ll_settings.specs.Settings.{Configuration}
use Rattle.ll_item.specs.declared.item.Item.{Item}
use Rattle.ll_verdict.specs.Events.{Event, Publish, Ask, Collect, Close, Clock, asks, counted, items, later, taken}
use Rattle.ll_verdict.specs.State.{State, gone, new_slots, next, settle, slot_by, state_of, stays}
use Rattle.ll_verdict.specs.Verdict.{Pending, at_once, held, reply, reply_by, waiting, wanted_of}
use Rattle.ll_verdict.specs.declared.entry.Slot.{Slot}
use Rattle.ll_rendition.specs.declared.fault.PublishFault.{PublishFault}
use Rattle.ll_verdict.specs.declared.reply.Reply.{Reply}
use Rattle.ll_verdict.specs.declared.reply.Settled.{Settled}
use Rattle.ll_verdict.specs.declared.wanted.Wanted.{Wanted}
use Rattle.ll_verdict.proofs.StateLemmas.{at_once-is, state-snoc}
use Rattle.ll_verdict.proofs.StepLemmas.{along}
use Rattle.ll_verdict.specs.Full.{is_full, refusal_after}
use Rattle.ll_room.specs.RoomValue.{AreDistinct, among, less}
use Rattle.ll_verdict.specs.declared.fault.ClockFault.{ClockFault}
use Rattle.ll_room.proofs.KeptLemmas.{below-filter, below-more}
use Rattle.ll_verdict.proofs.WaitingLemmas.{open-ready}
use Rattle.ll_room.proofs.SettleLemmas.{fewer}
use Rattle.ll_room.proofs.StandLemmas.{all_stay}
use Rattle.ll_script_rooms.specs.Waits.{under, wait_of, without}
use Rattle.ll_script_rooms.specs.declared.owner.Owner.{Owner}
use Rattle.ll_script_rooms.specs.declared.wait.Wait.{Wait}
use Rattle.ll_script_rooms.specs.Kept.{tickets_at}
use Rattle.ll_script_rooms.specs.World.{Channel, World, ask, ask_at, asked, asked_if, clock, clock_at, clock_refusal, clocked, close, close_at, close_of, declare, first_due, happens, is_due, offer, offer_at, offered, next_reply, next_reply_at, next_reply_of, told, told_to, waits_less, with_event}
use Rattle.ll_script_rooms.proofs.DueLemmas.{find_passes, reply_is}
use Rattle.ll_script_rooms.proofs.TieLemmas.{any_map, append_none, equal, find_any, get_other, get_set, none_some, same_test, tickets_drop, tickets_more, tickets_other, turn}

-- ---- the open requests of a channel stand in order of their tickets

-- tickets rise, and are at most `n`, the number of requests so far
pub record Ordered (n : ℕ) (ss : List Slot) : Type 0 where
  pub rising : IsRising 0 ss
  pub below : AreBelow (n + 1) ss

module _ (c : Configuration) (items : List Item) (time : ℕ) where
  settled-tickets : (ss : List Slot) → map ticket_in (map (settle c items time) ss) ≡ map ticket_in ss
  settled-tickets [] = refl
  settled-tickets (s ∷ ss) = ap (λ ts. s.entry.ticket ∷ ts) (settled-tickets ss)

  settled-rising : (low : ℕ) (ss : List Slot) → IsRising low ss → IsRising low (map (settle c items time) ss)
  settled-rising low [] r = tt
  settled-rising low (s ∷ ss) r = (r.0, settled-rising s.entry.ticket ss r.1)

  settled-below : (high : ℕ) (ss : List Slot) → AreBelow high ss → AreBelow high (map (settle c items time) ss)
  settled-below high [] b = tt
  settled-below high (s ∷ ss) b = (b.0, settled-below high ss b.1)

  kept-ordered : (p : Slot → Bool) (n : ℕ) (ss : List Slot) → Ordered n ss → Ordered n (map (settle c items time) (filter p ss))
  kept-ordered p n ss o = record {
    rising = settled-rising 0 (filter p ss) (rising-filter p 0 ss o.rising);
    below = settled-below (n + 1) (filter p ss) (below-filter p (n + 1) ss o.below);
  }

below-one : (n : ℕ) (ss : List Slot) (s : Slot) → s.entry.ticket < n → AreBelow n ss → AreBelow n (ss ++ s ∷ [])
below-one n [] s h b = (h, tt)
below-one n (t ∷ ss) s h b = (b.0, below-one n ss s h b.1)

ordered-later : (n : ℕ) (ss : List Slot) → Ordered n ss → Ordered (n + 1) (ss ++ [])
ordered-later n ss o =
    subst (Ordered (n + 1)) (sym (append-nil ss)) (record { rising = o.rising; below = below-more (n + 1) (n + 1 + 1) ss (omega arith) o.below })

ordered-same : (n : ℕ) (ss : List Slot) → Ordered n ss → Ordered n (ss ++ [])
ordered-same n ss o = subst (Ordered n) (sym (append-nil ss)) o

new-ordered : (c : Configuration) (r : Option Reply) (s : State) (a : Option Wanted) (ss : List Slot) → Ordered s.asks ss → Ordered (s.asks + 1) (ss ++ slot_by c r s a)
new-ordered c (Some r) s a ss o = ordered-later s.asks ss o
new-ordered c None s None ss o = ordered-later s.asks ss o
new-ordered c None s (Some a) ss o =
    let x : Slot = record {
      entry = record { ticket = s.asks + 1; wanted = a; seen = length s.items; deadline = s.time + 3000 * c.target };
      settled = None;
    } in
    record {
      rising = rising-park 0 ss x.entry (omega arith) o.rising o.below;
      below = below-one (s.asks + 1 + 1) ss x (omega arith) (below-more (s.asks + 1) (s.asks + 1 + 1) ss (omega arith) o.below);
    }

next-ordered : (c : Configuration) (s : State) (e : Event) → Ordered s.asks s.slots → Ordered (counted s.asks e) (next c s e).slots
next-ordered c s (Publish item) o =
    let i = taken c s.items (Publish item) in
    ordered-same s.asks (map (settle c i s.time) (filter (stays (Publish item)) s.slots)) (kept-ordered c i s.time (stays (Publish item)) s.asks s.slots o)
next-ordered c s (Ask want) o =
    new-ordered c (reply_by c (length (filter (λ x. is_none x.settled) s.slots)) s.items (wanted_of c want)) s (wanted_of c want)
    (map (settle c s.items s.time) (filter (stays (Ask want)) s.slots)) (kept-ordered c s.items s.time (stays (Ask want)) s.asks s.slots o)
next-ordered c s (Collect t) o =
    ordered-same s.asks (map (settle c s.items s.time) (filter (stays (Collect t)) s.slots)) (kept-ordered c s.items s.time (stays (Collect t)) s.asks s.slots o)
next-ordered c s (Close t) o =
    ordered-same s.asks (map (settle c s.items s.time) (filter (stays (Close t)) s.slots)) (kept-ordered c s.items s.time (stays (Close t)) s.asks s.slots o)
next-ordered c s (Clock ms) o =
    let t = later s.time (Clock ms) in
    ordered-same s.asks (map (settle c s.items t) (filter (stays (Clock ms)) s.slots)) (kept-ordered c s.items t (stays (Clock ms)) s.asks s.slots o)

pub ordered : (c : Configuration) (es : List Event) → Ordered (asks es) (state_of c es).slots
ordered c es =
    along (λ es. Ordered (asks es) (state_of c es).slots) (record { rising = tt; below = tt })
    (λ es e o. subst (λ (s : State). Ordered s.asks s.slots) (sym (state-snoc c es e)) (next-ordered c (state_of c es) e o)) es

differ : (a b : ℕ) → a < b → (b == a) ≡ false
differ a b h = grind (arith, nat_tests, h)

rising-among : (low n : ℕ) (ss : List Slot) → n ≤ low → IsRising low ss → among n (map ticket_in ss) ≡ false
rising-among low n [] h r = refl
rising-among low n (s ∷ ss) h r =
    ap₂ (λ a b. a || b) (differ n s.entry.ticket (omega (arith, h, r.0))) (rising-among s.entry.ticket n ss (omega (arith, h, r.0)) r.1)

rising-distinct : (low : ℕ) (ss : List Slot) → IsRising low ss → AreDistinct (map ticket_in ss)
rising-distinct low [] r = tt
rising-distinct low (s ∷ ss) r = (rising-among s.entry.ticket s.entry.ticket ss (omega arith) r.1, rising-distinct s.entry.ticket ss r.1)

-- ---- the tickets of the open requests, event by event

abbrev pub opens : Option Channel → List ℕ
opens None = []
opens (Some c) = map ticket_in (state_of c.settings c.events).slots

opens-distinct : (o : Option Channel) → AreDistinct (opens o)
opens-distinct None = tt
opens-distinct (Some c) = rising-distinct 0 (state_of c.settings c.events).slots (ordered c.settings c.events).rising

module _ (c : Channel) where
  abbrev now : State
  now = state_of c.settings c.events

  opens-next : (e : Event) → opens (Some (with_event e c)) ≡ map ticket_in (filter (stays e) now.slots) ++ map ticket_in (new_slots c.settings now e)
  opens-next e =
      ap (λ (s : State). map ticket_in s.slots) (state-snoc c.settings c.events e)
      ∙ map-append ticket_in (map (settle c.settings (taken c.settings now.items e) (later now.time e)) (filter (stays e) now.slots)) (new_slots c.settings now e)
      ∙ ap (λ ts. ts ++ map ticket_in (new_slots c.settings now e)) (settled-tickets c.settings (taken c.settings now.items e) (later now.time e) (filter (stays e) now.slots))

  opens-publish : (item : Item) → opens (Some (with_event (Publish item) c)) ≡ opens (Some c)
  opens-publish item =
      opens-next (Publish item) ∙ append-nil (map ticket_in (filter (stays (Publish item)) now.slots))
      ∙ ap (map ticket_in) (all_stay (Publish item) now.slots (λ s. refl))

  opens-clock : (ms : ℕ) → opens (Some (with_event (Clock ms) c)) ≡ opens (Some c)
  opens-clock ms =
      opens-next (Clock ms) ∙ append-nil (map ticket_in (filter (stays (Clock ms)) now.slots)) ∙ ap (map ticket_in) (all_stay (Clock ms) now.slots (λ s. refl))

  opens-ask : (want : WantValue) (o : Option Reply) → at_once c.settings (held c.settings c.events) c.events want ≡ o
      → opens (Some (with_event (Ask want) c)) ≡ opens (Some c) ++ map ticket_in (slot_by c.settings o now (wanted_of c.settings want))
  opens-ask want o h =
      opens-next (Ask want)
      ∙ ap₂ (λ ss r. map ticket_in ss ++ map ticket_in (slot_by c.settings r now (wanted_of c.settings want))) (all_stay (Ask want) now.slots (λ s. refl))
      (sym (at_once-is c.settings c.events want) ∙ h)

  opens-close : (t : ℕ) → opens (Some (with_event (Close t) c)) ≡ less t (opens (Some c))
  opens-close t = opens-next (Close t) ∙ append-nil (map ticket_in (filter (stays (Close t)) now.slots)) ∙ fewer t now.slots

  opens-collect : (t : ℕ) → is_some (reply_at t now.slots) ≡ true → opens (Some (with_event (Collect t) c)) ≡ less t (opens (Some c))
  opens-collect t h =
      opens-next (Collect t) ∙ append-nil (map ticket_in (filter (stays (Collect t)) now.slots))
      ∙ ap (map ticket_in) (alone t 0 now.slots (ordered c.settings c.events).rising h) ∙ fewer t now.slots

new_ticket : (c : Configuration) (n : ℕ) (list : List Item) (s : State) (a : Option Wanted) → reply_by c n list a ≡ None → map ticket_in (slot_by c None s a) ≡ (s.asks + 1) ∷ []
new_ticket c n list s None h = absurd (none_some _ (sym h))
new_ticket c n list s (Some a) h = refl

-- ---- the requests that wait

-- at each place the requests that wait are the open requests of the channel there, in order of asking
abbrev pub AreOpen : List Channel → List Wait → Type 0
AreOpen cs waits = (place : ℕ) → tickets_at place waits ≡ opens (slice_get cs place)

abbrev pub IsOpen : World → Type 0
IsOpen w = AreOpen w.channels w.waits

pub once_each : (cs : List Channel) (waits : List Wait) → AreOpen cs waits → (place : ℕ) → AreDistinct (tickets_at place waits)
once_each cs waits tied place = subst AreDistinct (sym (tied place)) (opens-distinct (slice_get cs place))

changed : (cs : List Channel) (waits waits2 : List Wait) (i : ℕ) (c c2 : Channel) → AreOpen cs waits → slice_get cs i ≡ Some c
    → ((j : ℕ) → (j == i) ≡ false → tickets_at j waits2 ≡ tickets_at j waits) → tickets_at i waits2 ≡ opens (Some c2) → AreOpen (slice_set cs i c2) waits2
changed cs waits waits2 i c c2 tied at others here j = by (j == i) refl
  where
    by : (b : Bool) → (j == i) ≡ b → tickets_at j waits2 ≡ opens (slice_get (slice_set cs i c2) j)
    by true f =
        subst (λ j. tickets_at j waits2 ≡ opens (slice_get (slice_set cs i c2) j)) (sym (equal j i f)) (here ∙ ap opens (sym (get_set cs i c c2 at)))
    by false f = others j f ∙ tied j ∙ ap opens (sym (get_other cs i j c2 f))

changed_same : (cs : List Channel) (waits : List Wait) (i : ℕ) (c c2 : Channel) → AreOpen cs waits → slice_get cs i ≡ Some c → opens (Some c2) ≡ opens (Some c)
    → AreOpen (slice_set cs i c2) waits
changed_same cs waits i c c2 tied at e = changed cs waits waits i c c2 tied at (λ j f. refl) (tied i ∙ ap opens at ∙ sym e)

changed_more : (cs : List Channel) (waits : List Wait) (x : Wait) (c c2 : Channel) → AreOpen cs waits → slice_get cs x.place ≡ Some c
    → opens (Some c2) ≡ opens (Some c) ++ x.ticket ∷ [] → AreOpen (slice_set cs x.place c2) (waits ++ x ∷ [])
changed_more cs waits x c c2 tied at e =
    changed cs waits (waits ++ x ∷ []) x.place c c2 tied at
    (λ j f. tickets_more j waits x ∙ ap (λ b. tickets_at j waits ++ (if b then x.ticket ∷ [] else [])) (turn x.place j f) ∙ append_none (tickets_at j waits))
    (tickets_more x.place waits x ∙ ap (λ b. tickets_at x.place waits ++ (if b then x.ticket ∷ [] else [])) (same_test x.place)
    ∙ ap (λ ns. ns ++ x.ticket ∷ []) (tied x.place ∙ ap opens at) ∙ sym e)

changed_less : (cs : List Channel) (waits : List Wait) (i t : ℕ) (c c2 : Channel) → AreOpen cs waits → slice_get cs i ≡ Some c
    → opens (Some c2) ≡ less t (opens (Some c)) → AreOpen (slice_set cs i c2) (without i t waits)
changed_less cs waits i t c c2 tied at e =
    changed cs waits (without i t waits) i c c2 tied at (λ j f. tickets_other i j t waits f)
    (tickets_drop i t waits (once_each cs waits tied i) ∙ ap (less t) (tied i ∙ ap opens at) ∙ sym e)

-- ---- acts

pub offer-open : (w : World) (i : ℕ) (item : Item) → IsOpen w → IsOpen (offer i item w)
offer-open w i item tied = at (slice_get w.channels i) refl
  where
    by : (c : Channel) (f : Option PublishFault) → slice_get w.channels i ≡ Some c → IsOpen (offered w i c item f)
    by c (Some f) h = tied
    by c None h = changed_same w.channels w.waits i c (with_event (Publish item) c) tied h (opens-publish c item)

    at : (o : Option Channel) → slice_get w.channels i ≡ o → IsOpen (offer_at w i item o)
    at None h = tied
    at (Some c) h = by c (refusal_after c.settings c.events item) h

pub ask-open : (w : World) (owner : Owner) (i : ℕ) (want : WantValue) → IsOpen w → IsOpen (ask owner i want w)
ask-open w owner i want tied = at (slice_get w.channels i) refl
  where
    by : (c : Channel) (o : Option Reply) → slice_get w.channels i ≡ Some c → at_once c.settings (held c.settings c.events) c.events want ≡ o
        → IsOpen (asked w owner i c want o)
    by c (Some r) h e = changed_same w.channels w.waits i c (with_event (Ask want) c) tied h (opens-ask c want (Some r) e ∙ append-nil (opens (Some c)))
    by c None h e =
        changed_more w.channels w.waits (record { owner = owner; place = i; ticket = asks c.events + 1 }) c (with_event (Ask want) c) tied h
        (opens-ask c want None e
        ∙ ap (λ ts. opens (Some c) ++ ts)
        (new_ticket c.settings (waiting c.settings c.events (held c.settings c.events)) (items c.settings c.events) (state_of c.settings c.events) (wanted_of c.settings want) e))

    if-full : (c : Channel) (full : Bool) → slice_get w.channels i ≡ Some c → IsOpen (asked_if full w owner i c want)
    if-full c true h = tied
    if-full c false h = by c (at_once c.settings (held c.settings c.events) c.events want) h refl

    at : (o : Option Channel) → slice_get w.channels i ≡ o → IsOpen (ask_at w owner i want o)
    at None h = tied
    at (Some c) h = if-full c (is_full (length c.events)) h

pub close_at-open : (w : World) (x : Wait) → IsOpen w → IsOpen (close_at w x (slice_get w.channels x.place))
close_at-open w x tied = at (slice_get w.channels x.place) refl
  where
    at : (o : Option Channel) → slice_get w.channels x.place ≡ o → IsOpen (close_at w x o)
    at None h = tied
    at (Some c) h = changed_less w.channels w.waits x.place x.ticket c (with_event (Close x.ticket) c) tied h (opens-close c x.ticket)

pub close-open : (w : World) (owner : Owner) → IsOpen w → IsOpen (close owner w)
close-open w owner tied = by (wait_of owner w.waits)
  where
    by : (o : Option Wait) → IsOpen (close_of w o)
    by None = tied
    by (Some x) = close_at-open w x tied

pub clock-open : (w : World) (i ms : ℕ) → IsOpen w → IsOpen (clock i ms w)
clock-open w i ms tied = at (slice_get w.channels i) refl
  where
    by : (c : Channel) (f : Option ClockFault) → slice_get w.channels i ≡ Some c → IsOpen (clocked w i c ms f)
    by c (Some f) h = tied
    by c None h = changed_same w.channels w.waits i c (with_event (Clock ms) c) tied h (opens-clock c ms)

    at : (o : Option Channel) → slice_get w.channels i ≡ o → IsOpen (clock_at w i ms o)
    at None h = tied
    at (Some c) h = by c (clock_refusal ms c.events) h

declared-get : (cs : List Channel) (d : Channel) (j : ℕ) → opens (Some d) ≡ [] → opens (slice_get (cs ++ d ∷ []) j) ≡ opens (slice_get cs j)
declared-get [] d zero e = e
declared-get [] d (suc j) e = refl
declared-get (c ∷ cs) d zero e = refl
declared-get (c ∷ cs) d (suc j) e = declared-get cs d j e

pub declare-open : (w : World) (c : Configuration) → IsOpen w → IsOpen (declare c w)
declare-open w c tied j = tied j ∙ sym (declared-get w.channels (record { settings = c; events = [] }) j refl)

-- ---- a reply that is due

second : (a b : Bool) → (a && b) ≡ true → b ≡ true
second true b h = h
second false b h = cc

-- its reply is decided
pub due_told : (c : Channel) (r : Pending) → first_due c.settings c.events ≡ Some r → is_some (reply c.settings c.events r) ≡ true
due_told c r h =
    second (not (gone c.settings c.events r)) (is_some (reply c.settings c.events r)) (find_passes (is_due c.settings c.events) r (held c.settings c.events) h)

-- and is there
due-ready : (c : Channel) (r : Pending) → first_due c.settings c.events ≡ Some r → is_some (reply_at r.ticket (state_of c.settings c.events).slots) ≡ true
due-ready c r h = ap is_some (reply_is c.settings c.events r h) ∙ due_told c r h

-- it finds the request that waits
pub due_waits : (w : World) (i : ℕ) (c : Channel) (r : Pending) → IsOpen w → slice_get w.channels i ≡ Some c → first_due c.settings c.events ≡ Some r
    → is_some (under i r.ticket w.waits) ≡ true
due_waits w i c r tied h due =
    let slots = (state_of c.settings c.events).slots in
    find_any i r.ticket w.waits ∙ ap (list_any (λ n. n == r.ticket)) (tied i ∙ ap opens h) ∙ any_map r.ticket slots ∙ open-ready r.ticket slots (due-ready c r due)

-- a request that waits has a channel
pub has_channel : (w : World) (i t : ℕ) → IsOpen w → slice_get w.channels i ≡ None → is_some (under i t w.waits) ≡ true → ⊥
has_channel w i t tied none h =
    let never : false ≡ true = sym (ap (list_any (λ n. n == t)) (tied i ∙ ap opens none)) ∙ sym (find_any i t w.waits) ∙ h in
    absurd (cc)

told-open : (w : World) (i t : ℕ) (owner : Owner) (s : Option Settled) → AreOpen w.channels (without i t w.waits) → IsOpen (waits_less (told w owner s) i t)
told-open w i t owner None tied = tied
told-open w i t owner (Some s) tied = tied

pub next_reply-open : (w : World) (i : ℕ) → IsOpen w → IsOpen (next_reply i w)
next_reply-open w i tied = at (slice_get w.channels i) refl
  where
    found : (c : Channel) (r : Pending) (o : Option Wait) → slice_get w.channels i ≡ Some c → first_due c.settings c.events ≡ Some r → IsOpen (told_to w i c r o)
    found c r None h due = tied
    found c r (Some x) h due =
        told-open (happens w i c (Collect r.ticket)) i r.ticket x.owner (reply c.settings c.events r)
        (changed_less w.channels w.waits i r.ticket c (with_event (Collect r.ticket) c) tied h (opens-collect c r.ticket (due-ready c r due)))

    by : (c : Channel) (o : Option Pending) → slice_get w.channels i ≡ Some c → first_due c.settings c.events ≡ o → IsOpen (next_reply_of w i c o)
    by c None h due = tied
    by c (Some r) h due = found c r (under i r.ticket w.waits) h due

    at : (o : Option Channel) → slice_get w.channels i ≡ o → IsOpen (next_reply_at w i o)
    at None h = tied
    at (Some c) h = by c (first_due c.settings c.events) h refl

-- A reply that is due finds its request and owner, at each moment of a script.
use Rattle.std.proofs.Common.{◌≡◌, ℕ, ◌+◌, List, [], ◌∷◌, ◌++◌, Bool, true, false, Option, Some, None, is_some, refl, ap, sym, ◌∙◌, subst, subst₂, arith, fold, length, slice_get, if◌then◌else◌}
use Rattle.ll_connection.specs.Met.{waiting_of, wants_out}
use Rattle.ll_connection.specs.Turn as connection
use Rattle.ll_connection.specs.Turn.{Connections, Turn, bytes, end, session_of}
use Rattle.ll_connection.specs.Visit.{Luck}
use Rattle.ll_connection.proofs.CountLemmas.{count-less, count-more, is_its_own, own_ticket}
use Rattle.ll_connection.proofs.MetLemmas.{AreMet, HasOut, bytes-met, end-met, few_out, has_out, reply-met}
use Rattle.ll_session.specs.Talk.{SessionValue}
use Rattle.ll_script_rooms.specs.Waits.{is_of, is_same, under, wait_of, without}
use Rattle.ll_script_rooms.specs.declared.owner.Owner.{Owner}
use Rattle.ll_script_rooms.specs.declared.owner.Owner.TheVariants.{Get, Connection}
use Rattle.ll_script_rooms.specs.declared.wait.Wait.{Wait}
use Rattle.ll_script.specs.declared.act.Act.{Act}
use Rattle.ll_script.specs.declared.act.Act.TheVariants.{Declare, Offer, At, Refuse, Ask, Answer, Close, Clock, RefuseClock, Bytes, Drop}
use Rattle.ll_verdict.specs.Events.{Collect, asks}
use Rattle.ll_verdict.specs.Verdict.{Pending, reply, reply_of, at_once, held}
use Rattle.ll_verdict.specs.declared.reply.Reply.{Reply}
use Rattle.ll_verdict.specs.declared.reply.Settled.{Settled}
use Rattle.ll_script_rooms.specs.World as rooms
use Rattle.ll_script_rooms.specs.World.{Channel, World, first_due, happens, next_reply_at, next_reply_of, told, told_to, waits_less}
use Rattle.ll_script_rooms.specs.declared.answer.ActAnswer as answer
use Rattle.ll_script_rooms.specs.declared.answer.ActAnswer.TheVariants as said
use Rattle.ll_script_rooms.proofs.TieLemmas.{none_some, same_test, some_is}
use Rattle.ll_script_rooms.proofs.WaitLemmas.{IsOpen, ask-open, clock-open, close-open, declare-open, due_waits, offer-open, opens, next_reply-open, due_told, once_each}
use Rattle.ll_replay.specs.Script.{Ending, Lot, Marked, Script, act, done, heard, passed_on, start, next_reply, turned}
use Rattle.ll_replay.specs.Stream.{come_to}
use Rattle.ll_directive.specs.Targets.{WantValue}
use Rattle.ll_item.specs.declared.item.Item.{Item}
use Rattle.ll_verdict.specs.Full.{is_full, refusal_after}
use Rattle.ll_verdict.specs.declared.fault.ClockFault.{ClockFault}
use Rattle.ll_rendition.specs.declared.fault.PublishFault.{PublishFault}
use Rattle.ll_script_laws.proofs.ScriptLemmas.{done-keeps, lines-keep}
use Rattle.ll_script_laws.specs.Laws.{DueLaw, FindsAsker, IsThere, WaitsLaw, moment, open_tickets}

-- ---- what changes no request of a connection

pub offer-same : (w : World) (i : ℕ) (item : Item) → (rooms.offer i item w).waits ≡ w.waits
offer-same w i item = at (slice_get w.channels i)
  where
    by : (c : Channel) (f : Option PublishFault) → (rooms.offered w i c item f).waits ≡ w.waits
    by c (Some f) = refl
    by c None = refl

    at : (o : Option Channel) → (rooms.offer_at w i item o).waits ≡ w.waits
    at None = refl
    at (Some c) = by c (refusal_after c.settings c.events item)

pub clock-same : (w : World) (i ms : ℕ) → (rooms.clock i ms w).waits ≡ w.waits
clock-same w i ms = at (slice_get w.channels i)
  where
    by : (c : Channel) (f : Option ClockFault) → (rooms.clocked w i c ms f).waits ≡ w.waits
    by c (Some f) = refl
    by c None = refl

    at : (o : Option Channel) → (rooms.clock_at w i ms o).waits ≡ w.waits
    at None = refl
    at (Some c) = by c (rooms.clock_refusal ms c.events)

ask-same : (w : World) (id i : ℕ) (want : WantValue) (m : ℕ) → waiting_of m (rooms.ask (Get id) i want w).waits ≡ waiting_of m w.waits
ask-same w id i want m = at (slice_get w.channels i)
  where
    by : (c : Channel) (o : Option Reply) → waiting_of m (rooms.asked w (Get id) i c want o).waits ≡ waiting_of m w.waits
    by c (Some r) = refl
    by c None = count-more m w.waits (record { owner = Get id; place = i; ticket = asks c.events + 1 }) ∙ none (waiting_of m w.waits)
      where
        none : (k : ℕ) → k + 0 ≡ k
        none k = omega arith

    if-full : (c : Channel) (full : Bool) → waiting_of m (rooms.asked_if full w (Get id) i c want).waits ≡ waiting_of m w.waits
    if-full c true = refl
    if-full c false = by c (at_once c.settings (held c.settings c.events) c.events want)

    at : (o : Option Channel) → waiting_of m (rooms.ask_at w (Get id) i want o).waits ≡ waiting_of m w.waits
    at None = refl
    at (Some c) = if-full c (is_full (length c.events))

-- a `get` line's request is no connection's
get_only : (o : Owner) (id m : ℕ) → is_same o (Get id) ≡ true → is_same o (Connection m) ≡ false
get_only (Get a) id m h = refl
get_only (Connection n) id m h = cc

close-same : (w : World) (id m : ℕ) → IsOpen w → waiting_of m (rooms.close (Get id) w).waits ≡ waiting_of m w.waits
close-same w id m tied = by (wait_of (Get id) w.waits) refl
  where
    at : (x : Wait) (o : Option Channel) → wait_of (Get id) w.waits ≡ Some x → waiting_of m (rooms.close_at w x o).waits ≡ waiting_of m w.waits
    at x None e = refl
    at x (Some c) e =
        let mine = is_its_own (Get id) x w.waits e in
        let less : waiting_of m (without x.place x.ticket w.waits) + 0 ≡ waiting_of m w.waits =
        ap (λ b. waiting_of m (without x.place x.ticket w.waits) + (if b then 1 else 0)) (sym (get_only x.owner id m mine))
        ∙ count-less m x.place x.ticket w.waits x (own_ticket (Get id) x w.waits e (once_each w.channels w.waits tied x.place)) in
        omega (arith, less)

    by : (o : Option Wait) → wait_of (Get id) w.waits ≡ o → waiting_of m (rooms.close_of w o).waits ≡ waiting_of m w.waits
    by None e = refl
    by (Some x) e = at x (slice_get w.channels x.place) e

-- ---- what holds at each moment

pub record Holds (w : Script) : Type 0 where
  pub met : AreMet w.rooms w.connections
  pub quiet : w.rooms.answers ≡ []

-- the rooms changed, and their answers are heard
rooms-hold : (w v : Script) (u : World) → v.rooms ≡ rooms.silent u → v.connections ≡ w.connections → Holds w → IsOpen u
    → ((m : ℕ) → waiting_of m u.waits ≡ waiting_of m w.rooms.waits) → Holds v
rooms-hold w v u is same h tied counts = record {
  met =
      subst₂ AreMet (sym is) (sym same)
      (record { rooms = tied; matched = λ m. counts m ∙ h.met.matched m; going = h.met.going });
  quiet = ap (λ (r : World). r.answers) is;
}

turn-holds : (w : Script) (t : Turn) → AreMet t.rooms t.connections → Holds (turned w t)
turn-holds w t m = record { met = record { rooms = m.rooms; matched = m.matched; going = m.going }; quiet = refl }

pub act-holds : (lucks : List Luck) (w : Script) (a : Act) → Holds w → Holds (act lucks w a)
act-holds lucks w (Declare c) h = rooms-hold w (act lucks w (Declare c)) (rooms.declare c w.rooms) refl refl h (declare-open w.rooms c h.met.rooms) (λ m. refl)
act-holds lucks w (Offer i item) h =
    rooms-hold w (act lucks w (Offer i item)) (rooms.offer i item w.rooms) refl refl h (offer-open w.rooms i item h.met.rooms) (λ m. ap (waiting_of m) (offer-same w.rooms i item))
act-holds lucks w (At i r) h = record { met = h.met; quiet = h.quiet }
act-holds lucks w (Refuse reason) h = record { met = h.met; quiet = h.quiet }
act-holds lucks w (Ask id i want) h =
    rooms-hold w (act lucks w (Ask id i want)) (rooms.ask (Get id) i want w.rooms) refl refl h (ask-open w.rooms (Get id) i want h.met.rooms) (ask-same w.rooms id i want)
act-holds lucks w (Answer id reason) h = record { met = h.met; quiet = h.quiet }
act-holds lucks w (Close id) h =
    rooms-hold w (act lucks w (Close id)) (rooms.close (Get id) w.rooms) refl refl h (close-open w.rooms (Get id) h.met.rooms) (λ m. close-same w.rooms id m h.met.rooms)
act-holds lucks w (Clock i ms) h =
    rooms-hold w (act lucks w (Clock i ms)) (rooms.clock i ms w.rooms) refl refl h (clock-open w.rooms i ms h.met.rooms) (λ m. ap (waiting_of m) (clock-same w.rooms i ms))
act-holds lucks w RefuseClock h = record { met = h.met; quiet = h.quiet }
act-holds lucks w (Bytes n piece) h = turn-holds w (bytes lucks n piece w.connections w.rooms) (bytes-met lucks n piece w.connections w.rooms h.met)
act-holds lucks w (Drop n) h = turn-holds w (end n w.connections w.rooms) (end-met n w.connections w.rooms h.met)

-- ---- a reply that is due

of_connection : (n : ℕ) (w : World) (i t : ℕ) (x : Wait) → under i t w.waits ≡ Some x → x.owner ≡ Connection n → waiting_of n (without i t w.waits) + 1 ≡ waiting_of n w.waits
of_connection n w i t x e is =
    ap (λ b. waiting_of n (without i t w.waits) + (if b then 1 else 0)) (sym (ap (λ o. is_same o (Connection n)) is ∙ same_test n)) ∙ count-less n i t w.waits x e

pub of_other : (m : ℕ) (w : World) (i t : ℕ) (x : Wait) → under i t w.waits ≡ Some x → is_of (Connection m) x ≡ false → waiting_of m (without i t w.waits) ≡ waiting_of m w.waits
of_other m w i t x e f =
    let less : waiting_of m (without i t w.waits) + 0 ≡ waiting_of m w.waits =
    ap (λ b. waiting_of m (without i t w.waits) + (if b then 1 else 0)) (sym f) ∙ count-less m i t w.waits x e in
    omega (arith, less)

pub asker : (n : ℕ) (all : Connections) (w : World) (i t : ℕ) (x : Wait) → AreMet w all → under i t w.waits ≡ Some x → x.owner ≡ Connection n → HasOut n all
asker n all w i t x h e is = has_out n all (waiting_of n (without i t w.waits)) (of_connection n w i t x e is ∙ h.matched n)

-- none of its connection waits then
pub own_gone : (n : ℕ) (all : Connections) (w : World) (i t : ℕ) (x : Wait) → AreMet w all → under i t w.waits ≡ Some x → x.owner ≡ Connection n
    → waiting_of n (without i t w.waits) ≡ 0
own_gone n all w i t x h e is = by (waiting_of n (without i t w.waits)) (session_of n all) (of_connection n w i t x e is ∙ h.matched n)
  where
    by : (k : ℕ) (o : Option (Option SessionValue)) → k + 1 ≡ wants_out o → k ≡ 0
    by k None e = omega (arith, e)
    by k (Some None) e = omega (arith, e)
    by k (Some (Some s)) e = omega (arith, e, few_out s.out)

-- the rooms after a reply was handed out
abbrev pub told_in : World → ℕ → Channel → Pending → Wait → Settled → World
told_in w place c r x s = waits_less (told (happens w place c (Collect r.ticket)) x.owner (Some s)) place r.ticket

-- what happens if the first reply that is due at a place is handed out
pub data Ticks (w : World) (place : ℕ) (v : World) : Type 0 where
  Nothing : ((c : Channel) → slice_get w.channels place ≡ Some c → first_due c.settings c.events ≡ None) → v ≡ w → Ticks w place v
  Tells : (c : Channel) (r : Pending) (x : Wait) (s : Settled) → slice_get w.channels place ≡ Some c → first_due c.settings c.events ≡ Some r
      → under place r.ticket w.waits ≡ Some x → reply c.settings c.events r ≡ Some s → v ≡ told_in w place c r x s → Ticks w place v

pub ticks : (w : World) (place : ℕ) → IsOpen w → Ticks w place (rooms.next_reply place w)
ticks w place tied = at (slice_get w.channels place) refl
  where
    told_by : (c : Channel) (r : Pending) (x : Wait) (o : Option Settled) → slice_get w.channels place ≡ Some c → first_due c.settings c.events ≡ Some r
        → under place r.ticket w.waits ≡ Some x → reply c.settings c.events r ≡ o
        → Ticks w place (waits_less (told (happens w place c (Collect r.ticket)) x.owner o) place r.ticket)
    told_by c r x None at is e none = let never : false ≡ true = ap is_some (sym none) ∙ due_told c r is in absurd (cc)
    told_by c r x (Some s) at is e told = Tells c r x s at is e told refl

    found : (c : Channel) (r : Pending) (o : Option Wait) → slice_get w.channels place ≡ Some c → first_due c.settings c.events ≡ Some r
        → under place r.ticket w.waits ≡ o → Ticks w place (told_to w place c r o)
    found c r None at is e = let never : false ≡ true = ap is_some (sym e) ∙ due_waits w place c r tied at is in absurd (cc)
    found c r (Some x) at is e = told_by c r x (reply c.settings c.events r) at is e refl

    by : (c : Channel) (o : Option Pending) → slice_get w.channels place ≡ Some c → first_due c.settings c.events ≡ o → Ticks w place (next_reply_of w place c o)
    by c None at is = Nothing (λ d there. ap (λ (c : Channel). first_due c.settings c.events) (some_is d c (sym there ∙ at)) ∙ is) refl
    by c (Some r) at is = found c r (under place r.ticket w.waits) at is refl

    at : (o : Option Channel) → slice_get w.channels place ≡ o → Ticks w place (next_reply_at w place o)
    at None e = Nothing (λ d there. absurd (none_some d (sym e ∙ there))) refl
    at (Some c) e = by c (first_due c.settings c.events) e refl

pub next_reply-holds : (place : ℕ) (w : Script) (lucks : List Luck) → Holds w → Holds (next_reply place w lucks)
next_reply-holds place w lucks h = by (rooms.next_reply place w.rooms) (ticks w.rooms place h.met.rooms) (next_reply-open w.rooms place h.met.rooms)
  where
    passed : (t : ℕ) (x : Wait) (o : Owner) (a : Reply) (v : World) → under place t w.rooms.waits ≡ Some x → x.owner ≡ o → v.waits ≡ without place t w.rooms.waits → IsOpen v
        → Holds (fold (passed_on lucks) (heard w v) (said.Replied o a ∷ []))
    passed t x (Get id) a v e is waits tied =
        rooms-hold w (heard w v) v refl refl h tied (λ m. ap (waiting_of m) waits ∙ of_other m w.rooms place t x e (ap (λ o. is_same o (Connection m)) is))
    passed t x (Connection n) a v e is waits tied =
        turn-holds (heard w v) (connection.reply lucks n a w.connections (rooms.silent v))
        (reply-met lucks n a w.connections w.rooms (rooms.silent v) h.met tied (ap (waiting_of n) waits ∙ own_gone n w.connections w.rooms place t x h.met e is)
        (λ m f. ap (waiting_of m) waits ∙ of_other m w.rooms place t x e (ap (λ o. is_same o (Connection m)) is ∙ f))
        (asker n w.connections w.rooms place t x h.met e is))

    by : (v : World) → Ticks w.rooms place v → IsOpen v → Holds (fold (passed_on lucks) (heard w v) v.answers)
    by v (Nothing none e) tied =
        subst (λ (v : World). Holds (fold (passed_on lucks) (heard w v) v.answers)) (sym e)
        (subst (λ answers. Holds (fold (passed_on lucks) (heard w w.rooms) answers)) (sym h.quiet)
        (rooms-hold w (heard w w.rooms) w.rooms refl refl h h.met.rooms (λ m. refl)))
    by v (Tells c r x s at is found told e) tied =
        let u = told_in w.rooms place c r x s in
        subst (λ (v : World). Holds (fold (passed_on lucks) (heard w v) v.answers)) (sym e)
        (subst (λ (answers : List answer.ActAnswer). Holds (fold (passed_on lucks) (heard w u) (answers ++ said.Replied x.owner (reply_of s) ∷ []))) (sym h.quiet)
        (passed r.ticket x x.owner (reply_of s) u found refl refl (subst IsOpen e tied)))

-- ---- lines

pub start-holds : Holds start
start-holds = record { met = record { rooms = λ place. refl; matched = λ n. refl; going = λ n s e. cc }; quiet = refl }

-- ---- the law

asks_by : (all : Connections) (w : World) (i t : ℕ) (x : Wait) (o : Owner) → AreMet w all → under i t w.waits ≡ Some x → x.owner ≡ o → IsThere o all
asks_by all w i t x (Get id) h e is = tt
asks_by all w i t x (Connection n) h e is = let has = asker n all w i t x h e is in (has.session, has.there, has.is_out)

finds : (w : Script) → Holds w → FindsAsker w
finds w h place c r there due = by (under place r.ticket w.rooms.waits) refl (due_waits w.rooms place c r h.met.rooms there due)
  where
    by : (o : Option Wait) → under place r.ticket w.rooms.waits ≡ o → is_some (under place r.ticket w.rooms.waits) ≡ true
        → (x : Wait) × (under place r.ticket w.rooms.waits ≡ Some x) × IsThere x.owner w.connections
    by None e some = let never : false ≡ true = ap is_some (sym e) ∙ some in absurd (cc)
    by (Some x) e some = (x, e, asks_by w.connections w.rooms place r.ticket x x.owner h.met e refl)

pub same-holds : (w : Script) (lines : ℕ) (ending : Option Ending) → Holds w → Holds (record w { lines = lines; ending = ending })
same-holds w lines ending h = record { met = h.met; quiet = h.quiet }

abbrev Always : List Act → Script → Type 0
Always list w = Holds w

pub done-holds : (w : Script) (a : Lot × Act) → Holds w → Holds (done w a)
done-holds w a h =
    done-keeps Always (λ list lucks w a h. act-holds lucks w a h) (λ list place w lucks h. next_reply-holds place w lucks h) (λ list w a h. h) [] w a h

all-hold : (list : List (Lot × Act)) (w : Script) → Holds w → Holds (fold done w list)
all-hold [] w h = h
all-hold (a ∷ list) w h = all-hold list (done w a) (done-holds w a h)

ticks-hold : (place : ℕ) (replies : List (List Luck)) (w : Script) → Holds w → Holds (fold (next_reply place) w replies)
ticks-hold place [] w h = h
ticks-hold place (lucks ∷ replies) w h = ticks-hold place replies (next_reply place w lucks) (next_reply-holds place w lucks h)

lines-hold : (ls : List Marked) → Holds (come_to ls)
lines-hold ls = lines-keep Always (λ list w a h. done-holds w a h) (λ list w lines ending h. same-holds w lines ending h) [] start ls start-holds

moment-holds : (before : List Marked) (list : List (Lot × Act)) (lucks : List Luck) (last : Act) (place : ℕ) (replies : List (List Luck))
    → Holds (moment before list lucks last place replies)
moment-holds before list lucks last place replies =
    let w = fold done (come_to before) list in
    ticks-hold place replies (act lucks w last) (act-holds lucks w last (all-hold list (come_to before) (lines-hold before)))

pub due : DueLaw
due before list lucks last place replies =
    let h = moment-holds before list lucks last place replies in
    (finds (moment before list lucks last place replies) h, h.met.matched)

pub waits : WaitsLaw
waits before list lucks last place replies i =
    let h = moment-holds before list lucks last place replies in
    let w = (moment before list lucks last place replies).rooms in
    (h.met.rooms i ∙ open-is (slice_get w.channels i), once_each w.channels w.waits h.met.rooms i)
  where
    open-is : (o : Option Channel) → opens o ≡ open_tickets o
    open-is None = refl
    open-is (Some c) = refl

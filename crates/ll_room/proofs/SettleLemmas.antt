-- Held requests that are collected, closed or time out: the room after it, and the tickets that are left.
use Rattle.std.proofs.Common.{◌≡◌, ℕ, ◌+◌, ◌≤◌, ◌==◌, List, [], ◌∷◌, ◌++◌, Bool, true, false, not, ◌&&◌, ◌||◌, cond, nat_le, Option, Some, None, is_none, refl, ap, ap₂, ◌∙◌, sym, subst, true≢false, filter, length, map, max, append-nil, arith}
use Rattle.std.proofs.lemmas.Bool.Decides.{nat_tests}
use Rattle.ll_settings.specs.Settings.{Configuration}
use Rattle.ll_item.specs.declared.item.Item.{Item}
use Rattle.ll_verdict.specs.Events.{Event, Collect, Close, Clock, items, time}
use Rattle.ll_verdict.specs.State.{State, state_of, settle, stays, next}
use Rattle.ll_verdict.specs.Verdict.{given, is_there, media_of, page_of}
use Rattle.ll_verdict.specs.declared.entry.Slot.{Slot}
use Rattle.ll_verdict.specs.declared.reply.Settled.{Settled}
use Rattle.ll_verdict.specs.declared.reply.Settled.TheVariants.{Timeout}
use Rattle.ll_book.specs.Release.{expired, is_over, over_if}
use Rattle.ll_verdict.specs.Waiting.{reply_at, ticket_in, without, without_ready}
use Rattle.ll_room.specs.RoomValue.{RoomValue, Stands, room_value, less}
use Rattle.ll_room.specs.Answers.{closed, collected, is_open}
use Rattle.ll_room.specs.Ticket.{Ticket}
use Rattle.ll_room.specs.declared.asked.Closed.TheVariants as given_up
use Rattle.ll_room.specs.declared.asked.Collected.TheVariants.{Still, Stranger}
use Rattle.ll_room.proofs.IdleLemmas.{AllIdle, Idle, idle, same_slots, each-filter}
use Rattle.ll_room.proofs.StandLemmas.{stands-by, all_stay}
use Rattle.ll_verdict.proofs.ListLemmas.{Each}

-- the clock

over_cond : (b : Bool) (s : Slot) → over_if b s ≡ record s { settled = cond b (Some Timeout) s.settled }
over_cond true s = refl
over_cond false s = refl

due_by : (o : Option Settled) (there before now : Bool) (reply : Settled)
    → cond (is_none o && (there || before)) (Some (cond there reply Timeout)) o ≡ o
    → cond (is_none o && now) (Some Timeout) o ≡ cond (is_none o && (there || now)) (Some (cond there reply Timeout)) o
due_by (Some x) there before now reply h = refl
due_by None true before now reply h = absurd (true≢false (sym (ap is_none h)))
due_by None false before now reply h = refl

-- what waits is not there, so it is due exactly when its time is over
due : (c : Configuration) (items : List Item) (before now : ℕ) (s : Slot) → Idle c items before s → expired now s ≡ settle c items now s
due c items before now s h =
    over_cond (is_over now s) s
    ∙ ap (λ o. record s { settled = o })
    (due_by s.settled (is_there c items s.entry.wanted) (nat_le s.entry.deadline before) (nat_le s.entry.deadline now) (given (length items) s.entry.wanted (page_of c items s.entry.wanted) (media_of c items s.entry.wanted)) (ap (λ s. s.settled) h))

each_due : (c : Configuration) (items : List Item) (before now : ℕ) (ss : List Slot)
    → Each (Idle c items before) ss → map (expired now) ss ≡ map (settle c items now) ss
each_due c items before now [] h = refl
each_due c items before now (s ∷ ss) h = ap₂ (λ x xs. x ∷ xs) (due c items before now s h.0) (each_due c items before now ss h.1)

clock_slots : (c : Configuration) (st : State) (ms : ℕ) → AllIdle c st
    → map (expired (max st.time ms)) st.slots ≡ (next c st (Clock ms)).slots
clock_slots c st ms h =
    each_due c st.items st.time (max st.time ms) st.slots h
    ∙ ap (map (settle c st.items (max st.time ms))) (sym (all_stay (Clock ms) st.slots (λ s. refl)))
    ∙ sym (append-nil (map (settle c st.items (max st.time ms)) (filter (stays (Clock ms)) st.slots)))

abbrev pub clocked : RoomValue → ℕ → List Slot → RoomValue
clocked h now slots = record h { time = now; slots = slots; events = h.events + 1 }

abbrev pub with_slots : RoomValue → List Slot → RoomValue
with_slots h slots = record h { slots = slots }

-- the room at a later time
abbrev later_home : RoomValue → ℕ → RoomValue
later_home h ms = clocked h (max h.time ms) (map (expired (max h.time ms)) h.slots)

pub same-room : (h : RoomValue) (slots : List Slot) → slots ≡ h.slots → with_slots h slots ≡ h
same-room h slots e = ap (with_slots h) e

pub clock-stands : (h : RoomValue) (es : List Event) (ms now : ℕ) (slots : List Slot) → 1 ≤ h.settings.target → Stands h es
    → now ≡ max h.time ms → slots ≡ map (expired now) h.slots → Stands (clocked h now slots) (es ++ Clock ms ∷ [])
clock-stands h es ms now slots low st at e =
    stands-by (clocked h now slots) h.settings es (Clock ms) refl
    (ap (clocked h now) e
    ∙ ap (λ n. clocked h n (map (expired n) h.slots)) at
    ∙ ap (λ x. later_home x ms) st
    ∙ ap (with_slots (room_value h.channel h.settings (next h.settings (state_of h.settings es) (Clock ms))))
    (clock_slots h.settings (state_of h.settings es) ms (idle h.settings es low)))

pub clock-tickets : (time : ℕ) (ss : List Slot) → map ticket_in (map (expired time) ss) ≡ map ticket_in ss
clock-tickets time [] = refl
clock-tickets time (s ∷ ss) = ap₂ (λ n ns. n ∷ ns) (ap ticket_in (over_cond (is_over time s) s)) (clock-tickets time ss)

-- a request that leaves

abbrev pub left_with : RoomValue → List Slot → RoomValue
left_with h slots = record h { slots = slots; events = h.events + 1 }

-- the others were not due before, and are not now
left_slots : (c : Configuration) (st : State) (e : Event) → AllIdle c st
    → filter (stays e) st.slots ≡ map (settle c st.items st.time) (filter (stays e) st.slots) ++ []
left_slots c st e h =
    sym (append-nil (map (settle c st.items st.time) (filter (stays e) st.slots))
    ∙ same_slots c st.items st.time (filter (stays e) st.slots) (each-filter (Idle c st.items st.time) (stays e) st.slots h))

pub collect-stands : (h : RoomValue) (es : List Event) (t p : ℕ) (slots : List Slot) → 1 ≤ h.settings.target → Stands h es
    → t ≡ p → slots ≡ without_ready t h.slots → Stands (left_with h slots) (es ++ Collect p ∷ [])
collect-stands h es t p slots low st same e =
    stands-by (left_with h slots) h.settings es (Collect p) refl
    (ap (left_with h) (e ∙ ap (λ n. without_ready n h.slots) same)
    ∙ ap (λ x. left_with x (without_ready p x.slots)) st
    ∙ ap (with_slots (room_value h.channel h.settings (next h.settings (state_of h.settings es) (Collect p))))
    (left_slots h.settings (state_of h.settings es) (Collect p) (idle h.settings es low)))

pub close-stands : (h : RoomValue) (es : List Event) (t p : ℕ) (slots : List Slot) → 1 ≤ h.settings.target → Stands h es
    → t ≡ p → slots ≡ without t h.slots → Stands (left_with h slots) (es ++ Close p ∷ [])
close-stands h es t p slots low st same e =
    stands-by (left_with h slots) h.settings es (Close p) refl
    (ap (left_with h) (e ∙ ap (λ n. without n h.slots) same)
    ∙ ap (λ x. left_with x (without p x.slots)) st
    ∙ ap (with_slots (room_value h.channel h.settings (next h.settings (state_of h.settings es) (Close p))))
    (left_slots h.settings (state_of h.settings es) (Close p) (idle h.settings es low)))

fewer_by : (s : Slot) (xs : List Slot) (ns : List ℕ) (b : Bool) → map ticket_in xs ≡ ns
    → map ticket_in (cond (not b) (s ∷ xs) xs) ≡ cond (not b) (s.entry.ticket ∷ ns) ns
fewer_by s xs ns true h = h
fewer_by s xs ns false h = ap (λ ns. s.entry.ticket ∷ ns) h

-- the tickets that are left
pub fewer : (t : ℕ) (ss : List Slot) → map ticket_in (without t ss) ≡ less t (map ticket_in ss)
fewer t [] = refl
fewer t (s ∷ ss) = fewer_by s (without t ss) (less t (map ticket_in ss)) (s.entry.ticket == t) (fewer t ss)

-- what they get

same_number : (a b : ℕ) → a ≡ b → (a == b) ≡ true
same_number a b e = grind (arith, nat_tests, e)

pub still : (h now : RoomValue) (p : Ticket) (t : ℕ) → h ≡ now → p.channel ≡ h.channel → t ≡ p.ticket
    → reply_at t h.slots ≡ None → is_open h t ≡ true → Still p ≡ collected now p
still h now p t is e same none there =
    subst (λ x. Still p ≡ collected x p) is (rw (same_number p.channel h.channel e, sym same, none, there) refl)

pub stranger : (h now : RoomValue) (p : Ticket) (t : ℕ) → h ≡ now → p.channel ≡ h.channel → t ≡ p.ticket
    → reply_at t h.slots ≡ None → is_open h t ≡ false → Stranger p ≡ collected now p
stranger h now p t is e same none there =
    subst (λ x. Stranger p ≡ collected x p) is (rw (same_number p.channel h.channel e, sym same, none, there) refl)

pub done : (h now : RoomValue) (p : Ticket) (t : ℕ) → h ≡ now → p.channel ≡ h.channel → t ≡ p.ticket → is_open h t ≡ true → given_up.Done ≡ closed now p
done h now p t is e same there =
    subst (λ x. given_up.Done ≡ closed x p) is (rw (same_number p.channel h.channel e, sym same, there) refl)

pub not_done : (h now : RoomValue) (p : Ticket) (t : ℕ) → h ≡ now → p.channel ≡ h.channel → t ≡ p.ticket → is_open h t ≡ false → given_up.Stranger p ≡ closed now p
not_done h now p t is e same there =
    subst (λ x. given_up.Stranger p ≡ closed x p) is (rw (same_number p.channel h.channel e, sym same, there) refl)

-- Requests that are found by their tickets, and those of them that have their reply.
use Rattle.std.proofs.Common.{◌≡◌, ℕ, ◌+◌, ◌==◌, ◌&&◌, List, [], ◌∷◌, Bool, true, false, not, cond, Option, Some, None, filter, find, is_none, is_some, length, map, option_and_then, option_map, refl, ap, sym, ◌∙◌, true≢false, arith}
use Rattle.std.proofs.lemmas.Option.{none-some}
use Rattle.std.specs.List.{slice_get}
use Rattle.ll_book.specs.Numbers.{AreRising, AreUnder}
use Rattle.ll_book.proofs.Finds.{count_but, find_both, find_filter, its_number, kept_if, rising_filter, same_rising}
use Rattle.ll_book.proofs.Keyed.{itself, none_but, not_here, same}
use Rattle.ll_verdict.specs.State.{is_waiting}
use Rattle.ll_verdict.specs.Waiting.{AreBelow, IsRising, entry_in, found, has_ticket, is_ready, is_ready_at, reply_at, settled_in, ticket_in, without, without_ready}
use Rattle.ll_verdict.proofs.WaitingLemmas.{unready}
use Rattle.ll_verdict.specs.declared.entry.Entry.{Entry}
use Rattle.ll_verdict.specs.declared.entry.Slot.{Slot}
use Rattle.ll_verdict.specs.declared.reply.Settled.{Settled}
use Rattle.ll_book.specs.Orders.{is_passed}

pub under : (t : ℕ) (ss : List Slot) → AreBelow t ss → AreUnder ticket_in t ss
under t [] b = tt
under t (s ∷ ss) b = (b.0, under t ss b.1)

pub rises : (low : ℕ) (ss : List Slot) → AreRising ticket_in low ss → IsRising low ss
rises low [] r = tt
rises low (s ∷ ss) r = (r.0, rises s.entry.ticket ss r.1)

pub both : (a b : Bool) → (a && b) ≡ true → (a ≡ true) × (b ≡ true)
both true b h = (refl, h)
both false b h = absurd (true≢false (sym h))

-- the reply of a ticket is that of the request of this ticket
ready_found : (t : ℕ) (ss : List Slot) → AreRising ticket_in 0 ss → find (is_ready_at t) ss ≡ kept_if ticket_in is_ready (find (has_ticket t) ss)
ready_found t ss r = find_both ticket_in is_ready t 0 ss r

its_entry : (o : Option Slot) (s : Slot) (b : Bool) → Some s ≡ o → is_some s.settled ≡ b → cond b (Some s.entry) None ≡ option_map entry_in (kept_if ticket_in is_ready o)
its_entry None s b f h = absurd (none-some s (sym f))
its_entry (Some r) s b f h = by_reply b (ap (λ z. is_some z.settled) (sym is) ∙ h)
  where
    is : s ≡ r
    is = cc

    by_reply : (b : Bool) → is_some r.settled ≡ b → cond b (Some s.entry) None ≡ option_map entry_in (cond (is_some r.settled) (Some r) None)
    by_reply true k = ap (λ (z : Slot). Some z.entry) is ∙ sym (ap (λ c. option_map entry_in (cond c (Some r) None)) k)
    by_reply false k = sym (ap (λ c. option_map entry_in (cond c (Some r) None)) k)

-- the entry of a request that is found, if its reply is there
pub entry_ready : (t : ℕ) (s : Slot) (ss : List Slot) (b : Bool) → AreRising ticket_in 0 ss → Some s ≡ find (has_ticket t) ss → is_some s.settled ≡ b
    → cond b (Some s.entry) None ≡ option_map entry_in (find (is_ready_at t) ss)
entry_ready t s ss b r f h = its_entry (find (has_ticket t) ss) s b f h ∙ sym (ap (option_map entry_in) (ready_found t ss r))

pub entry_nowhere : (t : ℕ) (ss : List Slot) → AreRising ticket_in 0 ss → None ≡ find (has_ticket t) ss → ◌≡◌ {A = Option Entry} None (option_map entry_in (find (is_ready_at t) ss))
entry_nowhere t ss r f = sym (ap (option_map entry_in) (ready_found t ss r ∙ ap (kept_if ticket_in is_ready) (sym f)))

-- ---- whose reply is taken

passed_by : (o : Option Slot) (e : Entry) → Some e ≡ option_map entry_in (kept_if ticket_in is_ready o) → is_passed is_ready o ≡ true
passed_by None e h = absurd (none-some e (sym h))
passed_by (Some s) e h = by_reply (is_ready s) h
  where
    by_reply : (b : Bool) → Some e ≡ option_map entry_in (cond b (Some s) None) → b ≡ true
    by_reply true h = refl
    by_reply false h = absurd (none-some e (sym h))

-- a reply that is found is there
pub passed : (t : ℕ) (e : Entry) (ss : List Slot) → AreRising ticket_in 0 ss → Some e ≡ option_map entry_in (find (is_ready_at t) ss) → is_passed is_ready (find (has_ticket t) ss) ≡ true
passed t e ss r h = passed_by (find (has_ticket t) ss) e (h ∙ ap (option_map entry_in) (ready_found t ss r))

its_reply : (o : Option Slot) → is_passed is_ready o ≡ true → kept_if ticket_in is_ready o ≡ o
its_reply None h = refl
its_reply (Some s) h = ap (λ b. cond b (Some s) None) h

pub ready_reply : (t : ℕ) (ss : List Slot) → AreRising ticket_in 0 ss → is_passed is_ready (find (has_ticket t) ss) ≡ true → option_and_then settled_in (find (has_ticket t) ss) ≡ reply_at t ss
ready_reply t ss r h = sym (ap (option_and_then settled_in) (ready_found t ss r ∙ its_reply (find (has_ticket t) ss) h))

-- who is taken is the only one of the ticket
pub left_ready : (t : ℕ) (ss : List Slot) → AreRising ticket_in 0 ss → is_passed is_ready (find (has_ticket t) ss) ≡ true → without t ss ≡ without_ready t ss
left_ready t ss r h =
    same_rising ticket_in 0 0 (without t ss) (without_ready t ss) (rising_filter ticket_in (λ s. not (has_ticket t s)) 0 ss r) (rising_filter ticket_in (λ s. not (is_ready_at t s)) 0 ss r)
    (λ n. find_filter ticket_in (λ s. not (has_ticket t s)) n 0 ss r ∙ alike n (find (has_ticket n) ss) refl ∙ sym (find_filter ticket_in (λ s. not (is_ready_at t s)) n 0 ss r))
  where
    ready_at : (n : ℕ) (s : Slot) (a : Bool) → Some s ≡ find (has_ticket n) ss → (s.entry.ticket == t) ≡ a → (s.entry.ticket == t) ≡ (s.entry.ticket == t && is_some s.settled)
    ready_at n s true e k =
        let here : Some s ≡ find (has_ticket t) ss = e ∙ ap (λ m. find (has_ticket m) ss) (sym (its_number ticket_in n s ss (sym e)) ∙ same s.entry.ticket t k) in
        let there : is_some s.settled ≡ true = ap (is_passed is_ready) here ∙ h in
        k ∙ sym (ap (λ a. a && is_some s.settled) k ∙ there)
    ready_at n s false e k = k ∙ sym (ap (λ a. a && is_some s.settled) k)

    alike : (n : ℕ) (o : Option Slot) → o ≡ find (has_ticket n) ss → kept_if ticket_in (λ s. not (has_ticket t s)) o ≡ kept_if ticket_in (λ s. not (is_ready_at t s)) o
    alike n None e = refl
    alike n (Some s) e = ap (λ b. cond (not b) (Some s) None) (ready_at n s (s.entry.ticket == t) e refl)

nothing : (o : Option Slot) → None ≡ option_map entry_in o → o ≡ None
nothing None h = refl
nothing (Some s) h = absurd (none-some s.entry h)

-- nobody is taken if no reply is there
pub none_ready : (t : ℕ) (ss : List Slot) → None ≡ option_map entry_in (find (is_ready_at t) ss) → ss ≡ without_ready t ss
none_ready t ss h = sym (unready t ss (ap (option_and_then settled_in) (nothing (find (is_ready_at t) ss) h)))

-- ---- who waits

pub waits : (s : Slot) → is_waiting s ≡ true → s ≡ record { entry = s.entry; settled = None }
waits s h = by_reply s.settled refl h
  where
    by_reply : (o : Option Settled) → s.settled ≡ o → is_none o ≡ true → s ≡ record { entry = s.entry; settled = None }
    by_reply None e k = ap (λ o. record { entry = s.entry; settled = o }) e
    by_reply (Some x) e k = absurd (true≢false (sym k))

found_by : (t : ℕ) (e : Entry) (ss : List Slot) (o : Option Slot) → o ≡ find (has_ticket t) ss → Some e ≡ option_map entry_in o → (s : Slot) × (find (has_ticket t) ss ≡ Some s) × (s.entry ≡ e) × (e.ticket ≡ t)
found_by t e ss None f h = absurd (none-some e (sym h))
found_by t e ss (Some s) f h =
    let is : s.entry ≡ e = cc in
    (s, sym f, is, ap (λ (d : Entry). d.ticket) (sym is) ∙ its_number ticket_in t s ss (sym f))

-- the slot of an entry that is found
pub slot_of : (t : ℕ) (e : Entry) (ss : List Slot) → Some e ≡ found t ss → (s : Slot) × (find (has_ticket t) ss ≡ Some s) × (s.entry ≡ e) × (e.ticket ≡ t)
slot_of t e ss h = found_by t e ss (find (has_ticket t) ss) refl h

-- ---- the tickets whose replies are there

pub first_ticket : (ss : List Slot) → slice_get (map ticket_in (filter is_ready ss)) 0 ≡ option_map ticket_in (find is_ready ss)
first_ticket [] = refl
first_ticket (s ∷ ss) = by_reply (is_ready s) (first_ticket ss)
  where
    by_reply : (b : Bool) → slice_get (map ticket_in (filter is_ready ss)) 0 ≡ option_map ticket_in (find is_ready ss)
        → slice_get (map ticket_in (cond b (s ∷ filter is_ready ss) (filter is_ready ss))) 0 ≡ option_map ticket_in (cond b (Some s) (find is_ready ss))
    by_reply true h = refl
    by_reply false h = h

-- ---- one of a ticket

-- a ticket stands for one request
pub one_found : (t : ℕ) (e : Entry) (ss : List Slot) → AreRising ticket_in 0 ss → Some e ≡ found t ss → 1 ≡ length (filter (has_ticket t) ss)
one_found t e ss r h =
    let s = slot_of t e ss h in
    let its : has_ticket t s.0 ≡ true = ap (λ (d : Entry). d.ticket == t) s.2 ∙ ap (λ n. n == t) s.3 ∙ itself t in
    let left = ap (λ b. length (filter (has_ticket t) (without t ss)) + cond b 1 0) its in
    omega (arith, count_but ticket_in (has_ticket t) t 0 s.0 ss r s.1, left, none_of_them t ss)
  where
    none_of_them : (t : ℕ) (ss : List Slot) → length (filter (has_ticket t) (without t ss)) ≡ 0
    none_of_them t [] = refl
    none_of_them t (s ∷ ss) = by_ticket (s.entry.ticket == t) refl (none_of_them t ss)
      where
        by_ticket : (b : Bool) → (s.entry.ticket == t) ≡ b → length (filter (has_ticket t) (without t ss)) ≡ 0 → length (filter (has_ticket t) (cond (not b) (s ∷ without t ss) (without t ss))) ≡ 0
        by_ticket true h k = k
        by_ticket false h k = ap (λ b. length (cond b (s ∷ filter (has_ticket t) (without t ss)) (filter (has_ticket t) (without t ss)))) h ∙ k

pub none_found : (t : ℕ) (ss : List Slot) → None ≡ found t ss → ss ≡ without t ss
none_found t ss h = sym (none_but ticket_in t ss (nothing (find (has_ticket t) ss) h))

pub nobody_found : (t : ℕ) (ss : List Slot) → None ≡ found t ss → 0 ≡ length (filter (has_ticket t) ss)
nobody_found t ss h = nobody t ss (nothing (find (has_ticket t) ss) h)
  where
    nobody : (t : ℕ) (ss : List Slot) → find (has_ticket t) ss ≡ None → 0 ≡ length (filter (has_ticket t) ss)
    nobody t [] f = refl
    nobody t (s ∷ ss) f =
        let rest = not_here ticket_in (s.entry.ticket == t) s (find (has_ticket t) ss) f in
        nobody t ss rest.1 ∙ sym (ap (λ b. length (cond b (s ∷ filter (has_ticket t) ss) (filter (has_ticket t) ss))) rest.0)

-- The value that stands for a request is found by a binary search, because the tickets of open requests rise.
use Rattle.std.proofs.Common.{◌≡◌, ℕ, zero, suc, ◌<◌, ◌≤◌, List, [], ◌∷◌, Bool, true, false, Result, Ok, Err, Equal, Greater, Less, get_or, length, map, nat_lt, position, refl, ap, sym, subst, arith}
use Rattle.std.proofs.lemmas.Bool.Decides.{nat_tests}
use Rattle.std.proofs.lemmas.List.Sorted.{searched}
use Rattle.std.proofs.lemmas.List.Sums.{position_or_len_is}
use Rattle.std.specs.List.{position_or_len}
use Rattle.std.specs.List.Sorted.{IsBinarySearchResult}
use Rattle.std.specs.Ordering.{nat_cmp, ordering_index}
use Rattle.std.specs.Result.{result_ok}
use Rattle.ll_room.specs.Ticket.{Ticket}
use Rattle.ll_verdict.specs.Waiting.{IsRising, ticket_in}
use Rattle.ll_verdict.specs.declared.entry.Slot.{Slot}
use Rattle.ll_hub_channel.specs.Channel.{is_of, parked_for, ticket_at}

-- the ticket at a place; 0 after the last
abbrev at : List ℕ → ℕ → ℕ
at ns i = get_or ns i 0

rises_from : (low : ℕ) (ss : List Slot) (j : ℕ) → IsRising low ss → j < length (map ticket_in ss) → low < at (map ticket_in ss) j
rises_from low [] j r h = absurd (omega (arith, h))
rises_from low (s ∷ ss) zero r h = r.0
rises_from low (s ∷ ss) (suc j) r h = let more : ticket_in s < at (map ticket_in ss) j = rises_from (ticket_in s) ss j r.1 (omega (arith, h)) in omega (arith, r.0, more)

-- a ticket at an earlier place is lesser
climbs : (low : ℕ) (ss : List Slot) (i j : ℕ) → IsRising low ss → i < j → j < length (map ticket_in ss) → at (map ticket_in ss) i < at (map ticket_in ss) j
climbs low [] i j r lt h = absurd (omega (arith, h))
climbs low (s ∷ ss) i zero r lt h = absurd (omega (arith, lt))
climbs low (s ∷ ss) zero (suc j) r lt h = rises_from (ticket_in s) ss j r.1 (omega (arith, h))
climbs low (s ∷ ss) (suc i) (suc j) r lt h = climbs (ticket_in s) ss i j r.1 (omega (arith, lt)) (omega (arith, h))

no_fall : (low : ℕ) (ss : List Slot) (i j : ℕ) (b : Bool) → nat_lt i j ≡ b → IsRising low ss → i ≤ j → j < length (map ticket_in ss) → at (map ticket_in ss) i ≤ at (map ticket_in ss) j
no_fall low ss i j true b r le h = let less : at (map ticket_in ss) i < at (map ticket_in ss) j = climbs low ss i j r (grind (arith, nat_tests, b)) h in omega (arith, less)
no_fall low ss i j false b r le h = let same : i ≡ j = grind (arith, nat_tests, b, le) in subst (λ k. at (map ticket_in ss) i ≤ at (map ticket_in ss) k) same (omega arith)

-- ---- the values have their tickets' places

ticket-at : (channel : ℕ) (ns : List ℕ) (i : ℕ) (d : Ticket) → (get_or (parked_for channel ns) i d).ticket ≡ get_or ns i d.ticket
ticket-at channel [] i d = refl
ticket-at channel (n ∷ ns) zero d = refl
ticket-at channel (n ∷ ns) (suc i) d = ticket-at channel ns i d

many : (channel : ℕ) (ns : List ℕ) → length (parked_for channel ns) ≡ length ns
many channel [] = refl
many channel (n ∷ ns) = ap suc (many channel ns)

by-ticket : (channel t : ℕ) (ns : List ℕ) (r : Result ℕ ℕ) → IsBinarySearchResult (λ (p : Ticket). nat_cmp p.ticket t) (parked_for channel ns) r
    → IsBinarySearchResult (λ n. nat_cmp n t) ns r
by-ticket channel t ns (Ok i) h = λ d. subst (λ n. nat_cmp n t ≡ Equal) (ticket-at channel ns i (ticket_at channel d)) (h (ticket_at channel d))
by-ticket channel t ns (Err i) h = λ up.
    let parted = h (λ a b d le l.
    subst (λ n. ordering_index (nat_cmp n t) ≤ ordering_index (nat_cmp (get_or (parked_for channel ns) b d).ticket t)) (sym (ticket-at channel ns a d))
    (subst (λ n. ordering_index (nat_cmp (get_or ns a d.ticket) t) ≤ ordering_index (nat_cmp n t)) (sym (ticket-at channel ns b d))
    (up a b d.ticket le (subst (λ n. b < n) (many channel ns) l)))) in (
      λ k d lo hi. subst (λ n. nat_cmp n t ≡ Less) (ticket-at channel ns k (ticket_at channel d)) (parted.0 k (ticket_at channel d) lo hi),
      λ k d lo hi. subst (λ n. nat_cmp n t ≡ Greater) (ticket-at channel ns k (ticket_at channel d))
          (parted.1 k (ticket_at channel d) lo (subst (λ n. k < n) (sym (many channel ns)) hi)),
    )

-- ---- the place that is found

-- the ticket is at this place, or else this is their number
placed : (channel t i : ℕ) (ns : List ℕ) → i ≤ length ns → ((k : ℕ) → k < i → (at ns k ≡ t) → ⊥) → (i < length ns → at ns i ≡ t)
    → position_or_len (is_of t) (parked_for channel ns) ≡ i
placed channel t i ns le before here =
    position_or_len_is (is_of t) (parked_for channel ns) i (ticket_at channel 0) (omega (arith, le, many channel ns))
    (λ k l. let is = ticket-at channel ns k (ticket_at channel 0) in let not_it = before k l in grind (arith, nat_tests, is, not_it))
    (λ l. let is = ticket-at channel ns i (ticket_at channel 0) in let it = here (omega (arith, l, many channel ns)) in grind (arith, nat_tests, is, it))

pub place-found : (channel t : ℕ) (ss : List Slot) (r : Result ℕ ℕ) → IsRising 0 ss → IsBinarySearchResult (λ (p : Ticket). nat_cmp p.ticket t) (parked_for channel (map ticket_in ss)) r
    → result_ok r ≡ position (is_of t) (parked_for channel (map ticket_in ss))
place-found channel t ss (Ok i) r h =
    let ns = map ticket_in ss in
    let found = searched ns t (Ok i) (by-ticket channel t ns (Ok i) h) (λ i j le l. no_fall 0 ss i j (nat_lt i j) refl r le l) in
    let is = placed channel t i ns (omega (arith, found.0)) (λ k l e. let under : at ns k < at ns i = climbs 0 ss k i r l found.0 in absurd (omega (arith, under, e, found.1))) (λ l. found.1) in
    grind (arith, nat_tests, is, many channel ns, found.0)
place-found channel t ss (Err i) r h =
    let ns = map ticket_in ss in
    let found = searched ns t (Err i) (by-ticket channel t ns (Err i) h) (λ i j le l. no_fall 0 ss i j (nat_lt i j) refl r le l) in
    let is = placed channel t (length ns) ns (omega arith) (λ k l e. beside found.1 found.2 k l e) (λ l. absurd (omega (arith, l))) in
    grind (arith, nat_tests, is, many channel ns)
  where
    beside : ((k : ℕ) → k < i → at (map ticket_in ss) k < t) → ((k : ℕ) → i ≤ k → k < length (map ticket_in ss) → t < at (map ticket_in ss) k) → (k : ℕ) → k < length (map ticket_in ss) → at (map ticket_in ss) k ≡ t → ⊥
    beside f g k l e = by (nat_lt k i) refl
      where
        by : (b : Bool) → nat_lt k i ≡ b → ⊥
        by true b = let less : at (map ticket_in ss) k < t = f k (grind (arith, nat_tests, b)) in omega (arith, less, e)
        by false b = let more : t < at (map ticket_in ss) k = g k (grind (arith, nat_tests, b)) l in omega (arith, more, e)

-- The replies made in the order of what is awaited are those of the release, in order of their tickets.
use Rattle.std.proofs.Common.{◌≡◌, ℕ, ◌<◌, ◌≤◌, ◌==◌, ◌&&◌, List, [], ◌∷◌, Bool, true, false, not, cond, Option, Some, None, filter, find, length, map, option_map, refl, ap, sym, ◌∙◌, true≢false, arith, nat_cmp}
use Rattle.std.proofs.lemmas.Bool.Decides.{nat_tests}
use Rattle.std.proofs.lemmas.Cmp.{tied_itself, upto}
use Rattle.std.proofs.lemmas.Map.Keys.{sorted_head, sorted_tail}
use Rattle.std.proofs.lemmas.Option.{none-some}
use Rattle.std.specs.BTreeMap.{is_at}
use Rattle.std.specs.List.{AllByRecursion}
use Rattle.std.specs.List.Sorted.{IsStrictlySortedBy}
use Rattle.std.specs.Map.{keys_of}
use Rattle.std.specs.Ordering.{is_gt, is_lt}
use Rattle.std.specs.declared.cmp.Ordering.{Ordering}
use Rattle.std.specs.declared.cmp.Ordering.TheVariants.{Less, Equal, Greater}
use Rattle.ll_book.specs.Numbers.{AreRising, has_number}
use Rattle.ll_book.specs.Places.{place_cmp}
use Rattle.ll_book.specs.declared.place.OrderKey.{OrderKey}
use Rattle.ll_book.proofs.Finds.{count_le, count_less, find_filter, its_number, kept_if, rising_filter, same_rising}
use Rattle.ll_book.proofs.Keyed.{is_number, itself, lower, same}
use Rattle.ll_book.proofs.Orders.{place_exact, place_total}
use Rattle.ll_verdict.specs.declared.reply.Settled.{Settled}
use Rattle.ll_verdict.specs.State.{is_waiting}
use Rattle.ll_verdict.specs.Waiting.{entry_in, has_ticket, ticket_in}
use Rattle.ll_verdict.specs.declared.entry.Entry.{Entry}
use Rattle.ll_verdict.specs.declared.entry.Slot.{Slot}
use Rattle.ll_book.specs.Orders.{IsNextTaken, NoneTaken, holder_at, is_held, is_passed, is_to_come, reply_under, reply_if, start, want_at}
use Rattle.ll_book.specs.Release.{Supply, frees, given_in, holder, holders_of, takes}
use Rattle.ll_book.specs.declared.release.Release.{Release}
use Rattle.ll_book.proofs.SlotLemmas.{both}
use Rattle.ll_book.proofs.TakeLemmas.{after_start, covers_is, ticket_above}

-- ---- the requests whose replies were made so far

lt_is : (o : Ordering) → o ≡ Less → is_lt o ≡ true
lt_is o h = ap is_lt h

is_less : (o : Ordering) → is_lt o ≡ true → o ≡ Less
is_less Less h = refl
is_less Equal h = absurd (true≢false (sym h))
is_less Greater h = absurd (true≢false (sym h))

not_itself : (p : OrderKey) → is_lt (place_cmp p p) ≡ false
not_itself p = ap is_lt (tied_itself place_total p)

pub not_gt : (p : OrderKey) → is_gt (place_cmp p p) ≡ false
not_gt p = ap is_gt (tied_itself place_total p)

module _ (which : Release) (slots : List Slot) (after place : OrderKey) (next : IsNextTaken which after place slots) where
  -- who is taken after the next one is taken after the one before it
  wider : (s : Slot) → is_to_come which place s ≡ true → is_to_come which after s ≡ true
  wider s h =
      let parts = both (takes which s) (is_lt (place_cmp place (want_at s))) h in
      ap (λ b. b && is_lt (place_cmp after (want_at s))) parts.0 ∙ lt_is _ (place_total.trans after place (want_at s) next.later (is_less _ parts.1))

  pub fewer_to_come : length (filter (is_to_come which place) slots) < length (filter (is_to_come which after) slots)
  fewer_to_come =
      count_less ticket_in (is_to_come which after) (is_to_come which place) wider place.number next.slot slots next.there
      (ap (λ b. b && is_lt (place_cmp after (want_at next.slot))) next.taken ∙ ap (λ p. is_lt (place_cmp after p)) next.at ∙ lt_is _ next.later)
      (ap (λ b. b && is_lt (place_cmp place (want_at next.slot))) next.taken ∙ ap (λ p. is_lt (place_cmp place p)) next.at ∙ not_itself place)

  next_held : is_held which place next.slot ≡ true
  next_held = ap (λ b. b && not (is_lt (place_cmp place (want_at next.slot)))) next.taken ∙ ap (λ p. not (is_lt (place_cmp place p))) next.at ∙ ap not (not_itself place)

  -- another stands after both or after neither
  other_held : (s : Slot) → find (has_ticket s.entry.ticket) slots ≡ Some s → (s.entry.ticket == place.number) ≡ false → is_held which after s ≡ is_held which place s
  other_held s f apart = by_take (takes which s) refl
    where
      by_orders : (o p : Ordering) → place_cmp after (want_at s) ≡ o → place_cmp place (want_at s) ≡ p → takes which s ≡ true → is_lt o ≡ is_lt p
      by_orders Less Less h k t = refl
      by_orders Less Equal h k t =
          absurd (true≢false (sym (itself place.number) ∙ ap (λ (p : OrderKey). p.number == place.number) (place_exact place (want_at s) k) ∙ apart))
      by_orders Less Greater h k t = absurd (true≢false (sym (ap is_gt k) ∙ next.first s f t h))
      by_orders Equal Less h k t = absurd (true≢false (sym (lt_is _ (place_total.trans after place (want_at s) next.later k)) ∙ ap is_lt h))
      by_orders Equal Equal h k t = refl
      by_orders Equal Greater h k t = refl
      by_orders Greater Less h k t = absurd (true≢false (sym (lt_is _ (place_total.trans after place (want_at s) next.later k)) ∙ ap is_lt h))
      by_orders Greater Equal h k t = refl
      by_orders Greater Greater h k t = refl

      by_take : (b : Bool) → takes which s ≡ b → (b && not (is_lt (place_cmp after (want_at s)))) ≡ (b && not (is_lt (place_cmp place (want_at s))))
      by_take true t = ap not (by_orders (place_cmp after (want_at s)) (place_cmp place (want_at s)) refl refl t)
      by_take false t = refl

  pub held_turn : (supply : Supply) (old new : List (ℕ × Settled))
      → ((t : ℕ) → reply_under new t ≡ cond (is_at (nat_cmp place.number) t) (holder_at supply slots place.number) (reply_under old t))
      → ((t : ℕ) → reply_under old t ≡ reply_if (is_passed (is_held which after) (find (has_ticket t) slots)) (holder_at supply slots t))
      → (t : ℕ) → reply_under new t ≡ reply_if (is_passed (is_held which place) (find (has_ticket t) slots)) (holder_at supply slots t)
  held_turn supply old new added met t =
      added t ∙ ap (λ b. cond b (holder_at supply slots place.number) (reply_under old t)) (is_number place.number t) ∙ by_ticket (t == place.number) refl (met t)
    where
      unlike : (o : Option Slot) → o ≡ find (has_ticket t) slots → (t == place.number) ≡ false → is_passed (is_held which after) o ≡ is_passed (is_held which place) o
      unlike None f h = refl
      unlike (Some s) f h =
          let its = its_number ticket_in t s slots (sym f) in
          other_held s (ap (λ n. find (has_ticket n) slots) its ∙ sym f) (ap (λ n. n == place.number) its ∙ h)

      by_ticket : (b : Bool) → (t == place.number) ≡ b → reply_under old t ≡ reply_if (is_passed (is_held which after) (find (has_ticket t) slots)) (holder_at supply slots t)
          → cond b (holder_at supply slots place.number) (reply_under old t) ≡ reply_if (is_passed (is_held which place) (find (has_ticket t) slots)) (holder_at supply slots t)
      by_ticket true h m =
          let is : t ≡ place.number = same t place.number h in
          sym (ap (λ n. reply_if (is_passed (is_held which place) (find (has_ticket n) slots)) (holder_at supply slots n)) is
          ∙ ap (λ o. reply_if (is_passed (is_held which place) o) (holder_at supply slots place.number)) next.there ∙ ap (λ b. reply_if b (holder_at supply slots place.number)) next_held)
      by_ticket false h m = m ∙ ap (λ b. reply_if b (holder_at supply slots t)) (unlike (find (has_ticket t) slots) refl h)

  pub from_turn : is_gt (place_cmp (start which) after) ≡ false → is_gt (place_cmp (start which) place) ≡ false
  from_turn from = upto place_total (start which) after place from (ap is_gt next.later)

-- before the first
pub none_held : (which : Release) (supply : Supply) (slots : List Slot) → AreRising ticket_in 0 slots → (t : ℕ)
    → ◌≡◌ {A = Option Settled} None (reply_if (is_passed (is_held which (start which)) (find (has_ticket t) slots)) (holder_at supply slots t))
none_held which supply slots r t = ap (λ b. reply_if b (holder_at supply slots t)) (by_slot (find (has_ticket t) slots) refl)
  where
    by_slot : (o : Option Slot) → o ≡ find (has_ticket t) slots → false ≡ is_passed (is_held which (start which)) o
    by_slot None f = refl
    by_slot (Some s) f = by_take (takes which s) refl
      where
        by_take : (b : Bool) → takes which s ≡ b → false ≡ (b && not (is_lt (place_cmp (start which) (want_at s))))
        by_take true h =
            let here : find (has_ticket s.entry.ticket) slots ≡ Some s = ap (λ n. find (has_ticket n) slots) (its_number ticket_in t s slots (sym f)) ∙ sym f in
            sym (ap not (lt_is _ (after_start which (want_at s) (covers_is which s.entry ∙ (both (is_waiting s) (frees which s.entry.wanted) h).1) (ticket_above s slots r here))))
        by_take false h = refl

pub first_to_come : (which : Release) (after : OrderKey) (slots : List Slot) → length (filter (is_to_come which after) slots) ≤ length (filter (takes which) slots)
first_to_come which after slots = count_le ticket_in (takes which) (is_to_come which after) (λ s h. (both (takes which s) (is_lt (place_cmp after (want_at s))) h).0) slots

-- after the last
all_held : (which : Release) (after : OrderKey) (slots : List Slot) → NoneTaken which after slots → (t : ℕ) → is_passed (is_held which after) (find (has_ticket t) slots) ≡ is_passed (takes which) (find (has_ticket t) slots)
all_held which after slots none t = by_slot (find (has_ticket t) slots) refl
  where
    by_slot : (o : Option Slot) → o ≡ find (has_ticket t) slots → is_passed (is_held which after) o ≡ is_passed (takes which) o
    by_slot None f = refl
    by_slot (Some s) f = by_tests (takes which s) (is_lt (place_cmp after (want_at s))) refl refl
      where
        by_tests : (b c : Bool) → takes which s ≡ b → is_lt (place_cmp after (want_at s)) ≡ c → (b && not c) ≡ b
        by_tests true true h k = absurd (none s (ap (λ n. find (has_ticket n) slots) (its_number ticket_in t s slots (sym f)) ∙ sym f) h (is_less _ k))
        by_tests true false h k = refl
        by_tests false c h k = refl

-- ---- replies in order of their tickets

abbrev key : ℕ × Settled → ℕ
key h = h.0

reply_found : (n : ℕ) (hs : List (ℕ × Settled)) → find (has_number key n) hs ≡ option_map (λ p. (n, p)) (reply_under hs n)
reply_found n [] = refl
reply_found n (h ∷ hs) = by_key (h.0 == n) refl (reply_found n hs) ∙ ap (λ b. option_map (λ p. (n, p)) (cond b (Some h.1) (reply_under hs n))) (sym (is_number n h.0))
  where
    by_key : (b : Bool) → (h.0 == n) ≡ b → find (has_number key n) hs ≡ option_map (λ p. (n, p)) (reply_under hs n)
        → cond b (Some h) (find (has_number key n) hs) ≡ option_map (λ p. (n, p)) (cond b (Some h.1) (reply_under hs n))
    by_key true e k = ap (λ m. Some (m, h.1)) (same h.0 n e)
    by_key false e k = k

rising_holders : (supply : Supply) (low : ℕ) (ss : List Slot) → AreRising ticket_in low ss → AreRising key low (map (holder supply) ss)
rising_holders supply low [] r = tt
rising_holders supply low (s ∷ ss) r = (r.0, rising_holders supply s.entry.ticket ss r.1)

holder_found : (supply : Supply) (t : ℕ) (ss : List Slot) → reply_under (map (holder supply) ss) t ≡ option_map (λ (s : Slot). given_in supply s.entry.wanted) (find (has_ticket t) ss)
holder_found supply t [] = refl
holder_found supply t (s ∷ ss) = ap (λ b. cond b (Some (given_in supply s.entry.wanted)) (reply_under (map (holder supply) ss) t)) (is_number t s.entry.ticket) ∙ by_key (s.entry.ticket == t) (holder_found supply t ss)
  where
    by_key : (b : Bool) → reply_under (map (holder supply) ss) t ≡ option_map (λ (z : Slot). given_in supply z.entry.wanted) (find (has_ticket t) ss)
        → cond b (Some (given_in supply s.entry.wanted)) (reply_under (map (holder supply) ss) t) ≡ option_map (λ (z : Slot). given_in supply z.entry.wanted) (cond b (Some s) (find (has_ticket t) ss))
    by_key true k = refl
    by_key false k = k

-- the reply of a ticket among those of a release
release_holds : (supply : Supply) (which : Release) (t : ℕ) (ss : List Slot) → AreRising ticket_in 0 ss → reply_under (holders_of supply which ss) t ≡ reply_if (is_passed (takes which) (find (has_ticket t) ss)) (holder_at supply ss t)
release_holds supply which t ss r =
    holder_found supply t (filter (takes which) ss) ∙ ap (option_map (λ (s : Slot). given_in supply s.entry.wanted)) (find_filter ticket_in (takes which) t 0 ss r) ∙ by_slot (find (has_ticket t) ss)
  where
    by_slot : (o : Option Slot) → option_map (λ (s : Slot). given_in supply s.entry.wanted) (kept_if ticket_in (takes which) o)
        ≡ reply_if (is_passed (takes which) o) (option_map (λ (e : Entry). given_in supply e.wanted) (option_map entry_in o))
    by_slot None = refl
    by_slot (Some s) = by_take (takes which s)
      where
        by_take : (b : Bool) → option_map (λ (z : Slot). given_in supply z.entry.wanted) (cond b (Some s) None) ≡ reply_if b (Some (given_in supply s.entry.wanted))
        by_take true = refl
        by_take false = refl

above_key : (a b : ℕ) → nat_cmp a b ≡ Less → a < b
above_key a b h = grind (arith, nat_tests, h)

sorted_rising : (low : ℕ) (hs : List (ℕ × Settled)) → AllByRecursion (λ k. nat_cmp low k ≡ Less) (keys_of hs) → IsStrictlySortedBy nat_cmp (keys_of hs) → AreRising key low hs
sorted_rising low [] a s = tt
sorted_rising low (h ∷ hs) a s = (above_key low h.0 a.0, sorted_rising h.0 hs (sorted_head nat_cmp h.0 (keys_of hs) s) (sorted_tail nat_cmp h.0 (keys_of hs) s))

-- keys that ascend rise from 0 if 0 isn't one of them
rising_entries : (hs : List (ℕ × Settled)) → IsStrictlySortedBy nat_cmp (keys_of hs) → reply_under hs 0 ≡ None → AreRising key 0 hs
rising_entries [] s none = tt
rising_entries (h ∷ hs) s none = (by_key (h.0 == 0) refl, sorted_rising h.0 hs (sorted_head nat_cmp h.0 (keys_of hs) s) (sorted_tail nat_cmp h.0 (keys_of hs) s))
  where
    by_key : (b : Bool) → (h.0 == 0) ≡ b → 0 < h.0
    by_key true k = absurd (none-some h.1 (sym none ∙ ap (λ b. cond b (Some h.1) (reply_under hs 0)) (is_number 0 h.0 ∙ k)))
    by_key false k = grind (arith, nat_tests, k)

pub holders_are : (supply : Supply) (which : Release) (after : OrderKey) (slots : List Slot) (hs : List (ℕ × Settled)) → AreRising ticket_in 0 slots → IsStrictlySortedBy nat_cmp (keys_of hs) → NoneTaken which after slots
    → ((t : ℕ) → reply_under hs t ≡ reply_if (is_passed (is_held which after) (find (has_ticket t) slots)) (holder_at supply slots t)) → hs ≡ holders_of supply which slots
holders_are supply which after slots hs r sorted none met =
    let alike : (t : ℕ) → reply_under hs t ≡ reply_under (holders_of supply which slots) t =
    λ t. met t ∙ ap (λ b. reply_if b (holder_at supply slots t)) (all_held which after slots none t) ∙ sym (release_holds supply which t slots r) in
    let rising = rising_holders supply 0 (filter (takes which) slots) (rising_filter ticket_in (takes which) 0 slots r) in
    same_rising key 0 0 hs (holders_of supply which slots) (rising_entries hs sorted (alike 0 ∙ at_zero (holders_of supply which slots) rising)) rising
    (λ n. reply_found n hs ∙ ap (option_map (λ p. (n, p))) (alike n) ∙ sym (reply_found n (holders_of supply which slots)))
  where
    at_zero : (gs : List (ℕ × Settled)) → AreRising key 0 gs → reply_under gs 0 ≡ None
    at_zero [] s = refl
    at_zero (g ∷ gs) s =
        let apart : (g.0 == 0) ≡ false = grind (arith, nat_tests, s.0) in
        ap (λ b. cond b (Some g.1) (reply_under gs 0)) (is_number 0 g.0 ∙ apart) ∙ at_zero gs (lower key 0 g.0 gs s.0 s.1)

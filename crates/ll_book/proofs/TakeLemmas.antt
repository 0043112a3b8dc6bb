-- The request that stands first in an order is the one that is taken first.
use Rattle.std.proofs.Common.{◌≡◌, ℕ, ◌<◌, ◌≤◌, ◌+◌, ◌==◌, ◌&&◌, ◌||◌, List, [], ◌∷◌, Bool, true, false, cond, Option, Some, None, IfNone, IfSome, filter, find, is_some, length, nat_le, nat_lt, option_map, refl, ap, sym, ◌∙◌, subst, true≢false, arith}
use Rattle.std.proofs.lemmas.Bool.Decides.{nat_tests}
use Rattle.std.proofs.lemmas.Cmp.{upto}
use Rattle.std.proofs.lemmas.Option.{none-some}
use Rattle.std.specs.List.{list_any}
use Rattle.std.specs.Ordering.{is_gt, nat_cmp, ordering_then}
use Rattle.std.specs.declared.cmp.Ordering.{Ordering}
use Rattle.ll_directive.specs.declared.want.Awaited.{Awaited}
use Rattle.ll_directive.specs.declared.want.Awaited.TheVariants as awaited
use Rattle.ll_book.specs.Numbers.{AreRising, change_if, changed}
use Rattle.ll_book.specs.Places.{IsBefore, IsNext, IsOrder, place_cmp, stands}
use Rattle.ll_book.specs.declared.place.OrderKey.{OrderKey}
use Rattle.ll_book.proofs.Finds.{count_changed, find_changed, find_filter, its_number, kept_if, none_up_to, rising_filter, same_rising}
use Rattle.ll_book.proofs.Orders.{in_place, of_place, place_total}
use Rattle.ll_verdict.specs.State.{is_waiting}
use Rattle.ll_verdict.specs.Waiting.{found, has_ticket, ticket_in}
use Rattle.ll_verdict.specs.declared.entry.Entry.{Entry}
use Rattle.ll_verdict.specs.declared.entry.Slot.{Slot}
use Rattle.ll_verdict.specs.declared.reply.Settled.{Settled}
use Rattle.ll_verdict.specs.declared.wanted.Wanted.{Wanted}
use Rattle.ll_book.specs.Orders.{IsNextTaken, IsWaiting, NoneTaken, covers, index_of, kind_of, msn_of, settle_with, start, time_at, want_at, want_of}
use Rattle.ll_book.specs.Release.{frees, is_over, part_comes, segment_comes, takes}
use Rattle.ll_book.specs.declared.release.Release.{Release}
use Rattle.ll_book.specs.declared.release.Release.TheVariants.{Part, Segment, All}
use Rattle.ll_book.proofs.SlotLemmas.{both, slot_of, waits}

pub none_if : {X : Type 0} (o : Option X) (P : Type 0) → P → IfNone o P
none_if None P h = h
none_if (Some x) P h = tt

pub if_some : {X : Type 0} (o : Option X) (P : X → Type 0) → ((x : X) → Some x ≡ o → P x) → IfSome o P
if_some None P h = tt
if_some (Some x) P h = h x refl

-- ---- places and releases

covers_by : (which : Release) (w : Wanted) (a : Awaited) (t : ℕ) → w.awaited ≡ a → covers which (record { group = w.rendition; kind = kind_of a; rank = msn_of a; subrank = index_of a; number = t }) ≡ frees which w
covers_by (Part r m p) w awaited.Nothing t h = ap (λ x. w.rendition == r && part_comes x m p) (sym h)
covers_by (Part r m p) w (awaited.Segment n) t h = ap (λ x. w.rendition == r && part_comes x m p) (sym h)
covers_by (Part r m p) w (awaited.Part n i) t h = ap (λ x. w.rendition == r && part_comes x m p) (sym h)
covers_by (Segment r m) w awaited.Nothing t h = ap (λ x. w.rendition == r && segment_comes x m) (sym h)
covers_by (Segment r m) w (awaited.Segment n) t h = ap (λ x. w.rendition == r && segment_comes x m) (sym h)
covers_by (Segment r m) w (awaited.Part n i) t h = ap (λ x. w.rendition == r && segment_comes x m) (sym h)
covers_by (All r) w a t h = refl

-- a release covers the place of a request that it frees
pub covers_is : (which : Release) (e : Entry) → covers which (want_of e) ≡ frees which e.wanted
covers_is which e = covers_by which e.wanted e.wanted.awaited e.ticket refl

-- a covered place stands after the start
pub after_start : (which : Release) (p : OrderKey) → covers which p ≡ true → 0 < p.number → IsBefore (start which) p
after_start (Part r m k) p h l = grind (arith, nat_tests, h, l)
after_start (Segment r m) p h l = grind (arith, nat_tests, h, l)
after_start (All r) p h l = grind (arith, nat_tests, h, l)

first_le : (a b : ℕ) (o : Ordering) → is_gt (ordering_then (nat_cmp a b) o) ≡ false → a ≤ b
first_le a b o h = grind (arith, nat_tests, h)

past_equal : (a b : ℕ) (o : Ordering) → is_gt (ordering_then (nat_cmp a b) o) ≡ false → a ≡ b → is_gt o ≡ false
past_equal a b o h e = grind (arith, nat_tests, e, h)

by_number : (n i n2 i2 m p : ℕ) (b : Bool) → (n == n2) ≡ b → n ≤ n2 → (n ≡ n2 → i ≤ i2) → (nat_lt n2 m || (n2 == m && nat_le i2 p)) ≡ true → (nat_lt n m || (n == m && nat_le i p)) ≡ true
by_number n i n2 i2 m p true e le index c =
    let same : n ≡ n2 = grind (arith, nat_tests, e) in
    let under : i ≤ i2 = index same in
    grind (arith, nat_tests, same, under, c)
by_number n i n2 i2 m p false e le index c =
    let less : n < n2 = grind (arith, nat_tests, e, le) in
    grind (arith, nat_tests, less, c)

part_before : (r m k : ℕ) (p q : OrderKey) → is_gt (place_cmp (start (Part r m k)) p) ≡ false → is_gt (place_cmp p q) ≡ false → covers (Part r m k) q ≡ true → covers (Part r m k) p ≡ true
part_before r m k p q s h c =
    let at = both (q.group == r) (q.kind == 0 && (nat_lt q.rank m || (q.rank == m && nat_le q.subrank k))) c in
    let part = both (q.kind == 0) (nat_lt q.rank m || (q.rank == m && nat_le q.subrank k)) at.1 in
    let low : r ≤ p.group = first_le r p.group _ s in
    let high : p.group ≤ q.group = first_le p.group q.group _ h in
    let its : q.group ≡ r = grind (arith, nat_tests, at.0) in
    let group : p.group ≡ q.group = omega (arith, low, high, its) in
    let kinds = past_equal p.group q.group _ h group in
    let nothing : q.kind ≡ 0 = grind (arith, nat_tests, part.0) in
    let kind : p.kind ≡ q.kind = (let le = first_le p.kind q.kind _ kinds in omega (arith, le, nothing)) in
    let ranks = past_equal p.kind q.kind _ kinds kind in
    let here : (p.group == r) ≡ true = ap (λ n. n == r) group ∙ at.0 in
    let zero_kind : (p.kind == 0) ≡ true = ap (λ n. n == 0) kind ∙ part.0 in
    ap (λ b. b && (p.kind == 0 && (nat_lt p.rank m || (p.rank == m && nat_le p.subrank k)))) here ∙ ap (λ b. b && (nat_lt p.rank m || (p.rank == m && nat_le p.subrank k))) zero_kind
    ∙ by_number p.rank p.subrank q.rank q.subrank m k (p.rank == q.rank) refl (first_le p.rank q.rank _ ranks) (λ e. first_le p.subrank q.subrank _ (past_equal p.rank q.rank _ ranks e)) part.1

-- what stands between the start and a covered place is covered
covered_before : (which : Release) (p q : OrderKey) → is_gt (place_cmp (start which) p) ≡ false → is_gt (place_cmp p q) ≡ false → covers which q ≡ true → covers which p ≡ true
covered_before (Part r m k) p q s h c = part_before r m k p q s h c
covered_before (Segment r m) p q s h c = grind (arith, nat_tests, s, h, c)
covered_before (All r) p q s h c = grind (arith, nat_tests, s, h, c)

-- ---- the next that is taken

module _ (slots : List Slot) (wants : List OrderKey) (which : Release) (wanted : IsOrder ticket_in is_waiting want_at slots wants) where
  its_place : (s : Slot) → find (has_ticket s.entry.ticket) slots ≡ Some s → takes which s ≡ true → (stands wants (want_at s) ≡ true) × (covers which (want_at s) ≡ true)
  its_place s f t =
      let parts = both (is_waiting s) (frees which s.entry.wanted) t in
      (in_place ticket_in is_waiting want_at (λ z. refl) slots wants s wanted f ∙ parts.0, covers_is which s.entry ∙ parts.1)

  pub next_taken : (after place : OrderKey) → IsNext after place wants → covers which place ≡ true → IsNextTaken which after place slots
  next_taken after place next covered =
      let of = of_place ticket_in is_waiting want_at (λ z. refl) place slots wants wanted next.there in
      record {
        slot = of.element;
        there = of.there;
        taken = ap (λ b. b && frees which of.element.entry.wanted) of.inside ∙ sym (covers_is which of.element.entry) ∙ ap (covers which) of.at ∙ covered;
        at = of.at;
        later = next.after;
        first = λ s f t b. next.first (want_at s) b (its_place s f t).0;
      }

  pub nothing_after : (after : OrderKey) → ((p : OrderKey) → IsBefore after p → stands wants p ≡ false) → NoneTaken which after slots
  nothing_after after none s f t b = true≢false (sym (its_place s f t).0 ∙ none (want_at s) b)

  pub uncovered_after : (after place : OrderKey) → is_gt (place_cmp (start which) after) ≡ false → IsNext after place wants → covers which place ≡ false → NoneTaken which after slots
  uncovered_after after place from next un s f t b =
      let its = its_place s f t in
      true≢false (sym (covered_before which place (want_at s) (upto place_total (start which) after place from (ap is_gt next.after)) (next.first (want_at s) b its.0) its.1) ∙ un)

-- ---- nobody is left

-- who is found has a ticket above 0
pub ticket_above : (s : Slot) (ss : List Slot) → AreRising ticket_in 0 ss → find (has_ticket s.entry.ticket) ss ≡ Some s → 0 < s.entry.ticket
ticket_above s ss r f = by_order (nat_lt 0 s.entry.ticket) refl
  where
    by_order : (b : Bool) → nat_lt 0 s.entry.ticket ≡ b → 0 < s.entry.ticket
    by_order true h = grind (arith, nat_tests, h)
    by_order false h = absurd (none-some s (sym (none_up_to ticket_in s.entry.ticket 0 ss (grind (arith, nat_tests, h)) r) ∙ f))

pub none_pass : (p : Slot → Bool) (ss : List Slot) → AreRising ticket_in 0 ss → ((s : Slot) → find (has_ticket s.entry.ticket) ss ≡ Some s → p s ≡ true → ⊥) → filter p ss ≡ []
none_pass p ss r none =
    same_rising ticket_in 0 0 (filter p ss) [] (rising_filter ticket_in p 0 ss r) tt (λ n. find_filter ticket_in p n 0 ss r ∙ nobody n (find (has_ticket n) ss) refl)
  where
    by_test : (s : Slot) (b : Bool) → p s ≡ b → (p s ≡ true → ⊥) → cond b (Some s) None ≡ None
    by_test s true h k = absurd (k h)
    by_test s false h k = refl

    nobody : (n : ℕ) (o : Option Slot) → o ≡ find (has_ticket n) ss → kept_if ticket_in p o ≡ None
    nobody n None f = refl
    nobody n (Some s) f = by_test s (p s) refl (none s (ap (λ m. find (has_ticket m) ss) (its_number ticket_in n s ss (sym f)) ∙ sym f))

pub none_taken : (which : Release) (ss : List Slot) → AreRising ticket_in 0 ss → NoneTaken which (start which) ss → filter (takes which) ss ≡ []
none_taken which ss r none =
    none_pass (takes which) ss r (λ s f t. none s f t (after_start which (want_at s) (covers_is which s.entry ∙ (both (is_waiting s) (frees which s.entry.wanted) t).1) (ticket_above s ss r f)))

-- whether any passes
pub found_any : (p q : Slot → Bool) (s : Slot) (ss : List Slot) → find q ss ≡ Some s → p s ≡ true → list_any p ss ≡ true
found_any p q s [] f h = absurd (none-some s f)
found_any p q s (r ∷ ss) f h = by_test (q r) f (λ g. found_any p q s ss g h)
  where
    or_true : (b : Bool) → (b || true) ≡ true
    or_true true = refl
    or_true false = refl

    by_test : (b : Bool) → cond b (Some r) (find q ss) ≡ Some s → (find q ss ≡ Some s → list_any p ss ≡ true) → (p r || list_any p ss) ≡ true
    by_test true g k = let is : r ≡ s = cc in ap (λ b. b || list_any p ss) (ap p is ∙ h)
    by_test false g k = ap (λ b. p r || b) (k g) ∙ or_true (p r)

none_any : (p : Slot → Bool) (ss : List Slot) → filter p ss ≡ [] → list_any p ss ≡ false
none_any p [] h = refl
none_any p (s ∷ ss) h = by_test (p s) h (none_any p ss)
  where
    by_test : (b : Bool) → cond b (s ∷ filter p ss) (filter p ss) ≡ [] → (filter p ss ≡ [] → list_any p ss ≡ false) → (b || list_any p ss) ≡ false
    by_test true k ih = absurd (cc)
    by_test false k ih = ih k

pub takes_some : (which : Release) (ss : List Slot) (o : Option Entry) → IfSome o (λ e. IsWaiting e ss × (frees which e.wanted ≡ true)) → IfNone o (filter (takes which) ss ≡ []) → is_some o ≡ list_any (takes which) ss
takes_some which ss None some none = sym (none_any (takes which) ss none)
takes_some which ss (Some e) some none = sym (found_any (takes which) (has_ticket e.ticket) (record { entry = e; settled = None }) ss some.0 some.1)

-- nobody who is found passes where none does
pub passes_not : (p q : Slot → Bool) (s : Slot) (ss : List Slot) → filter p ss ≡ [] → find q ss ≡ Some s → p s ≡ false
passes_not p q s ss h f = by_test (p s) refl
  where
    by_test : (b : Bool) → p s ≡ b → b ≡ false
    by_test true k = absurd (true≢false (sym (found_any p q s ss f k) ∙ none_any p ss h))
    by_test false k = refl

-- ---- the first whose time is over

rank_le : (a b t u : ℕ) → is_gt (place_cmp (record { group = 0; kind = 0; rank = a; subrank = 0; number = t }) (record { group = 0; kind = 0; rank = b; subrank = 0; number = u })) ≡ false → a ≤ b
rank_le a b t u h = grind (arith, nat_tests, h)

time_after : (d t : ℕ) → 0 < t → IsBefore (record { group = 0; kind = 0; rank = 0; subrank = 0; number = 0 }) (record { group = 0; kind = 0; rank = d; subrank = 0; number = t })
time_after d t h = grind (arith, nat_tests, h)

module _ (slots : List Slot) (times : List OrderKey) (now : ℕ) (rising : AreRising ticket_in 0 slots) (timed : IsOrder ticket_in is_waiting time_at slots times) where
  abbrev origin : OrderKey
  origin = record { group = 0; kind = 0; rank = 0; subrank = 0; number = 0 }

  its_time : (s : Slot) → find (has_ticket s.entry.ticket) slots ≡ Some s → is_over now s ≡ true → (stands times (time_at s) ≡ true) × (s.entry.deadline ≤ now) × IsBefore origin (time_at s)
  its_time s f h =
      let parts = both (is_waiting s) (nat_le s.entry.deadline now) h in (
        in_place ticket_in is_waiting time_at (λ z. refl) slots times s timed f ∙ parts.0,
        grind (arith, nat_tests, parts.1),
        time_after s.entry.deadline s.entry.ticket (ticket_above s slots rising f),
      )

  pub nothing_over : ((p : OrderKey) → IsBefore origin p → stands times p ≡ false) → filter (is_over now) slots ≡ []
  nothing_over none = none_pass (is_over now) slots rising (λ s f h. let its = its_time s f h in true≢false (sym its.0 ∙ none (time_at s) its.2))

  pub none_over : (place : OrderKey) → IsNext origin place times → now < place.rank → filter (is_over now) slots ≡ []
  none_over place next late =
      let of = of_place ticket_in is_waiting time_at (λ z. refl) place slots times timed next.there in
      none_pass (is_over now) slots rising (λ s f h.
      let its = its_time s f h in
      let first = subst (λ p. is_gt (place_cmp p (time_at s)) ≡ false) (sym of.at) (next.first (time_at s) its.2 its.0) in
      let le = rank_le of.element.entry.deadline s.entry.deadline of.element.entry.ticket s.entry.ticket first in
      omega (arith, late, le, its.1, ap (λ (p : OrderKey). p.rank) of.at))

  pub over_waits : (place : OrderKey) (e : Entry) → IsNext origin place times → place.rank ≤ now → Some e ≡ found place.number slots → IsWaiting e slots × (e.deadline ≤ now)
  over_waits place e next come h =
      let of = of_place ticket_in is_waiting time_at (λ z. refl) place slots times timed next.there in
      let its = slot_of place.number e slots h in
      let same_slot : its.0 ≡ of.element = cc in (
        ap (λ n. find (has_ticket n) slots) its.3 ∙ its.1 ∙ ap Some (waits its.0 (ap is_waiting same_slot ∙ of.inside) ∙ ap (λ d. record { entry = d; settled = None }) its.2),
        subst (λ n. n ≤ now) (sym (ap (λ (d : Entry). d.deadline) (sym its.2) ∙ ap (λ (s : Slot). s.entry.deadline) same_slot ∙ ap (λ (p : OrderKey). p.rank) of.at)) come,
      )

-- ---- one after another

-- the result for each ticket is the same, once one more request has its reply
pub step : (f g : Slot → Slot) (e : Entry) (x : Settled) (ss : List Slot) → IsWaiting e ss → f (record { entry = e; settled = Some x }) ≡ g (record { entry = e; settled = None })
    → ((s : Slot) → (s.entry.ticket == e.ticket) ≡ false → f s ≡ g s)
    → (t : ℕ) → option_map f (find (has_ticket t) (changed ticket_in e.ticket (settle_with x) ss)) ≡ option_map g (find (has_ticket t) ss)
step f g e x ss w here others t = ap (option_map f) (find_changed ticket_in (settle_with x) (λ s. refl) t e.ticket ss) ∙ by_slot (find (has_ticket t) ss) refl
  where
    by_ticket : (s : Slot) (b : Bool) → Some s ≡ find (has_ticket t) ss → (s.entry.ticket == e.ticket) ≡ b → f (change_if b (settle_with x) s) ≡ g s
    by_ticket s true k h =
        let its : s.entry.ticket ≡ e.ticket = grind (arith, nat_tests, h) in
        let waiting : Some s ≡ Some (record { entry = e; settled = None }) = k ∙ ap (λ n. find (has_ticket n) ss) (sym (its_number ticket_in t s ss (sym k)) ∙ its) ∙ w in
        let is : s ≡ record { entry = e; settled = None } = cc in
        ap (λ z. f (settle_with x z)) is ∙ here ∙ ap g (sym is)
    by_ticket s false k h = others s h

    by_slot : (o : Option Slot) → o ≡ find (has_ticket t) ss → option_map f (option_map (λ s. change_if (s.entry.ticket == e.ticket) (settle_with x) s) o) ≡ option_map g o
    by_slot None k = refl
    by_slot (Some s) k = ap Some (by_ticket s (s.entry.ticket == e.ticket) k refl)

-- one fewer passes
pub one_fewer : (p : Slot → Bool) (e : Entry) (x : Settled) (ss : List Slot) → AreRising ticket_in 0 ss → IsWaiting e ss → p (record { entry = e; settled = None }) ≡ true → p (record { entry = e; settled = Some x }) ≡ false
    → length (filter p (changed ticket_in e.ticket (settle_with x) ss)) + 1 ≡ length (filter p ss)
one_fewer p e x ss r w wide narrow =
    let all = count_changed ticket_in p (settle_with x) e.ticket 0 (record { entry = e; settled = None }) ss r w in
    let before = ap (λ b. length (filter p (changed ticket_in e.ticket (settle_with x) ss)) + cond b 1 0) wide in
    let after = ap (λ b. length (filter p ss) + cond b 1 0) narrow in
    omega (arith, all, before, after)

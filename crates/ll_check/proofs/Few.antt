-- A record has fewer than 2^64 entries: with each event that a channel has, either it isn't full or one request less is open after it.
use Rattle.std.proofs.Common.{◌≡◌, ℕ, ◌+◌, ◌<◌, ◌≤◌, ◌^◌, ◌==◌, ◌&&◌, ◌||◌, List, [], ◌∷◌, ◌++◌, Bool, true, false, not, cond, Option, Some, None, is_some, refl, ap, ◌∙◌, sym, subst, append-nil, append_assoc, true≢false, filter, find, length, length-append, map, nat_le, option_and_then, option_map, arith}
use Rattle.std.proofs.lemmas.Bool.{and_parts, not-true}
use Rattle.std.proofs.lemmas.Bool.Decides.{nat_tests}
use Rattle.std.proofs.lemmas.List.{length-map}
use Rattle.std.specs.List.{list_any}
use Rattle.ll_verdict.specs.Waiting.{has_ticket, is_ready_at, reply_at, settled_in}
use Rattle.ll_entry.specs.Entered.{event_of, fault_in, is_open_after, same_answer, settled_after, unless_refused}
use Rattle.ll_entry.specs.declared.entry.Recorded.{Recorded}
use Rattle.ll_entry.specs.declared.entry.Recorded.TheVariants as recorded
use Rattle.ll_settings.specs.Settings.{Configuration}
use Rattle.ll_entry.proofs.ToldLemmas.{both, same_answers, told-right}
use Rattle.ll_entry.specs.Told.{as_told}
use Rattle.ll_entry.specs.Replies.{told_in}
use Rattle.ll_entry.specs.declared.version.Version.{Version}
use Rattle.ll_verdict.specs.Full.{full_by, is_full}
use Rattle.ll_verdict.proofs.StateLemmas.{state-snoc}
use Rattle.ll_verdict.specs.Accepted.{refusal}
use Rattle.ll_rendition.specs.Refusal.{first_refusal}
use Rattle.ll_verdict.specs.Events.{Event, Publish, Ask, Collect, Close, Clock, asks, items, later, steps_from, taken, time}
use Rattle.ll_verdict.specs.Outcome.{outcome_of}
use Rattle.ll_verdict.specs.State.{State, answer_of, new_slots, settle, slot_by, state_of, stays}
use Rattle.ll_verdict.specs.Verdict.{at_once, held, reply_of, wanted_of}
use Rattle.ll_verdict.specs.declared.entry.Slot.{Slot}
use Rattle.ll_rendition.specs.declared.fault.PublishFault.{PublishFault}
use Rattle.ll_verdict.specs.declared.reply.Outcome.{Outcome}
use Rattle.ll_verdict.specs.declared.reply.Reply.{Reply}
use Rattle.ll_verdict.specs.declared.reply.Settled.{Settled}
use Rattle.ll_verdict.specs.declared.wanted.Wanted.{Wanted}
use Rattle.ll_check.specs.Records.{AreToldBy}

abbrev open_after : Configuration → List Event → List Slot
open_after c events = (state_of c events).slots

-- no more requests are open than there were events, and together they are few
record AreFew (c : Configuration) (events : List Event) : Type 0 where
  open_few : length (open_after c events) ≤ length events
  few : length events + length (open_after c events) ≤ 2 ^ 61

-- ---- the open requests after one more event

kept_short : (s : Slot) (xs ys : List Slot) (b : Bool) → length xs ≤ length ys → length (cond b (s ∷ xs) xs) ≤ length (s ∷ ys)
kept_short s xs ys true h = omega (arith, h)
kept_short s xs ys false h = omega (arith, h)

short-filter : (p : Slot → Bool) (ss : List Slot) → length (filter p ss) ≤ length ss
short-filter p [] = omega arith
short-filter p (s ∷ ss) = kept_short s (filter p ss) ss (p s) (short-filter p ss)

one_slot : (c : Configuration) (o : Option Reply) (s : State) (w : Option Wanted) → length (slot_by c o s w) ≤ 1
one_slot c None s (Some a) = omega arith
one_slot c None s None = omega arith
one_slot c (Some answer) s w = omega arith

one_new : (c : Configuration) (s : State) (e : Event) → length (new_slots c s e) ≤ 1
one_new c s (Publish item) = omega arith
one_new c s (Ask want) = one_slot c (answer_of c s want) s (wanted_of c want)
one_new c s (Collect ask) = omega arith
one_new c s (Close ask) = omega arith
one_new c s (Clock ms) = omega arith

open_count : (c : Configuration) (events : List Event) (e : Event)
    → length (open_after c (events ++ e ∷ [])) ≡ length (filter (stays e) (open_after c events)) + length (new_slots c (state_of c events) e)
open_count c events e =
    let kept = filter (stays e) (open_after c events) in
    let change = settle c (taken c (items c events) e) (later (time events) e) in
    ap (λ (s : State). length s.slots) (state-snoc c events e)
    ∙ length-append (map change kept) (new_slots c (state_of c events) e)
    ∙ ap (λ n. n + length (new_slots c (state_of c events) e)) (length-map kept change)

more_few : (events slots kept new after more : ℕ) → slots ≤ events → events < 2 ^ 60 → kept ≤ slots → new ≤ 1 → after ≡ kept + new → more ≡ events + 1
    → (after ≤ more) × (more + after ≤ 2 ^ 61)
more_few events slots kept new after more h room k n e m = (omega (arith, h, k, n, e, m), omega (arith, h, room, k, n, e, m))

-- a channel that isn't full
not-full : (c : Configuration) (events : List Event) (e : Event) → is_full (length events) ≡ false → AreFew c events → AreFew c (events ++ e ∷ [])
not-full c events e unfull f =
    let kept = filter (stays e) (open_after c events) in
    let room : length events < 2 ^ 60 = below (length events) (2 ^ 60) unfull in
    let p = more_few (length events) (length (open_after c events)) (length kept) (length (new_slots c (state_of c events) e)) (length (open_after c (events ++ e ∷ [])))
    (length (events ++ e ∷ [])) f.open_few room (short-filter (stays e) (open_after c events)) (one_new c (state_of c events) e) (open_count c events e)
    (length-append events (e ∷ [])) in
    record { open_few = p.0; few = p.1 }
  where
    below : (n end : ℕ) → nat_le end n ≡ false → n < end
    below n end h = grind (arith, nat_tests)

lost_by : (s : Slot) (xs ss : List Slot) (b any : Bool) → length xs ≤ length ss → (any ≡ true → length xs + 1 ≤ length ss) → (b || any) ≡ true
    → length (cond (not b) (s ∷ xs) xs) + 1 ≤ length (s ∷ ss)
lost_by s xs ss true any le f h = omega (arith, le)
lost_by s xs ss false any le f h = let fewer = f h in omega (arith, fewer)

lost : (p : Slot → Bool) (ss : List Slot) → list_any p ss ≡ true → length (filter (λ s. not (p s)) ss) + 1 ≤ length ss
lost p [] h = absurd (true≢false (sym h))
lost p (s ∷ ss) h = lost_by s (filter (λ s. not (p s)) ss) ss (p s) (list_any p ss) (short-filter (λ s. not (p s)) ss) (lost p ss) h

fewer_few : (events slots kept after more : ℕ) → slots ≤ events → events + slots ≤ 2 ^ 61 → kept + 1 ≤ slots → after ≡ kept + 0 → more ≡ events + 1
    → (after ≤ more) × (more + after ≤ 2 ^ 61)
fewer_few events slots kept after more h few k e m = (omega (arith, h, k, e, m), omega (arith, few, k, e, m))

-- a request that is open no longer
one-less : (c : Configuration) (events : List Event) (e : Event) → length (filter (stays e) (open_after c events)) + 1 ≤ length (open_after c events)
    → length (new_slots c (state_of c events) e) ≡ 0 → AreFew c events → AreFew c (events ++ e ∷ [])
one-less c events e less none f =
    let kept = filter (stays e) (open_after c events) in
    let p = fewer_few (length events) (length (open_after c events)) (length kept) (length (open_after c (events ++ e ∷ []))) (length (events ++ e ∷ [])) f.open_few f.few
    less (open_count c events e ∙ ap (λ n. length kept + n) none) (length-append events (e ∷ [])) in
    record { open_few = p.0; few = p.1 }

-- ---- each kind of entry

found_by : (s : Slot) (o : Option Slot) (b any : Bool) → (is_some (option_and_then settled_in o) ≡ true → any ≡ true)
    → is_some (option_and_then settled_in (cond b (Some s) o)) ≡ true → (b || any) ≡ true
found_by s o true any f h = refl
found_by s o false any f h = f h

found_any : (p : Slot → Bool) (ss : List Slot) → is_some (option_and_then settled_in (find p ss)) ≡ true → list_any p ss ≡ true
found_any p [] h = h
found_any p (s ∷ ss) h = found_by s (find p ss) (p s) (list_any p ss) (found_any p ss) h

unfull_by : (o : Option PublishFault) (full : Bool) → unless_refused (first_refusal o (full_by full)) ≡ None → full ≡ false
unfull_by None true h = cc
unfull_by None false h = refl
unfull_by (Some fault) full h = cc

-- a reply that is recorded is there
there_by : (v : Version) (o : Option Settled) (reply : Outcome) → Some reply ≡ option_map (told_in v) (option_map (λ (s : Settled). outcome_of (reply_of s)) o) → is_some o ≡ true
there_by v None reply h = cc
there_by v (Some s) reply h = refl

few-after : (v : Version) (c : Configuration) (events : List Event) (entry : Recorded) → fault_in v c events entry ≡ None → AreFew c events
    → AreFew c (events ++ event_of entry ∷ [])
few-after v c events (recorded.Publish item) h f =
    not-full c events (Publish item) (unfull_by (refusal c (items c events) item) (is_full (length events)) h) f
few-after v c events (recorded.Ask ask want reply) h f =
    let now = option_map (λ r. told_in v (outcome_of r)) (at_once c (held c events) events want) in
    let can = both (ask == asks events + 1 && not (is_full (length events))) (same_answer reply now) h in
    not-full c events (Ask want) (not-true (is_full (length events)) (and_parts (ask == asks events + 1) (not (is_full (length events))) can.0).1) f
few-after v c events (recorded.Clock ms) h f =
    let can = both (nat_le ms (2 ^ 60) && not (is_full (length events))) true h in
    not-full c events (Clock ms) (not-true (is_full (length events)) (and_parts (nat_le ms (2 ^ 60)) (not (is_full (length events))) can.0).1) f
few-after v c events (recorded.Collect ask reply) h f =
    let now = option_map (told_in v) (settled_after c events ask) in
    let can = both (is_open_after c events ask) (same_answer (Some reply) now) h in
    let there = there_by v (reply_at ask (open_after c events)) reply (same_answers (Some reply) now can.1) in
    one-less c events (Collect ask) (lost (is_ready_at ask) (open_after c events) (found_any (is_ready_at ask) (open_after c events) there)) refl f
few-after v c events (recorded.Close ask) h f =
    one-less c events (Close ask) (lost (has_ticket ask) (open_after c events) (both (is_open_after c events ask) true h).0) refl f

-- ---- all events

few_from : (c : Configuration) (lines : List (Version × List ℕ)) (before events : List Event) → AreToldBy c lines (steps_from before events) → AreFew c before
    → AreFew c (before ++ events)
few_from c lines before [] told f = subst (AreFew c) (sym (append-nil before)) f
few_from c [] before (e ∷ events) told f = absurd told
few_from c (line ∷ lines) before (e ∷ events) told f =
    let entry = as_told line.0 told.0.entry in
    let right = told-right line.0 c before e told.0.entry told.0.happens in
    subst (AreFew c) (append_assoc before (e ∷ []) events)
    (few_from c lines (before ++ e ∷ []) events told.1
    (subst (λ e. AreFew c (before ++ e ∷ [])) right.1 (few-after line.0 c before entry right.0 f)))

-- as many events as this are recorded
pub few : (c : Configuration) (lines : List (Version × List ℕ)) (events : List Event) → AreToldBy c lines (steps_from [] events) → length events ≤ 2 ^ 61
few c lines events told =
    let f = few_from c lines [] events told (record { open_few = omega arith; few = omega arith }) in
    let all = f.few in omega (arith, all)

-- An entry in which nothing is wrong after some events is the one of its event, as its format keeps it; and in the entry of an event, as a
-- format keeps it, nothing is wrong.
use Rattle.std.proofs.Common.{◌≡◌, ℕ, ◌+◌, ◌^◌, ◌==◌, ◌&&◌, ◌||◌, List, [], ◌∷◌, ◌++◌, Bool, true, false, not, cond, Option, Some, None, is_none, is_some, refl, ap, ap₂, ◌∙◌, sym, length, map, find, nat_le, option_and_then, option_map, subst, suc, arith}
use Rattle.std.proofs.lemmas.Bool.{and_parts, not-true}
use Rattle.std.proofs.lemmas.Bool.Decides.{nat_tests}
use Rattle.std.specs.List.{list_any}
use Rattle.ll_verdict.specs.Waiting.{has_ticket, reply_at}
use Rattle.ll_entry.specs.Entered.{event_of, fault_in, is_open_after, same_answer, same_outcome, same_update, settled_after, unless_refused, where_it_can}
use Rattle.ll_entry.specs.Replies.{told_in}
use Rattle.ll_directive.specs.Targets.{WantValue}
use Rattle.ll_entry.specs.declared.entry.Recorded.{Recorded}
use Rattle.ll_entry.specs.declared.entry.Recorded.TheVariants as recorded
use Rattle.ll_entry.specs.declared.version.Version.{Version}
use Rattle.ll_entry.specs.declared.version.Version.TheVariants.{Two}
use Rattle.ll_settings.specs.Settings.{Configuration}
use Rattle.ll_item.specs.declared.skip_kind.SkipKind.{SkipKind}
use Rattle.ll_item.specs.declared.skip_kind.SkipKind.TheVariants.{Yes, V2}
use Rattle.ll_verdict.proofs.WaitingLemmas.{open-ready}
use Rattle.ll_verdict.specs.Full.{is_full, refusal_after}
use Rattle.ll_verdict.specs.Events.{Event, Publish, Ask, Collect, Close, Clock, asks, steps_from}
use Rattle.ll_verdict.specs.Outcome.{outcome_of}
use Rattle.ll_verdict.specs.State.{open_requests, slot_of, state_of}
use Rattle.ll_verdict.specs.Verdict.{Pending, at_once, held, reply, reply_of}
use Rattle.ll_rendition.specs.declared.fault.PublishFault.{PublishFault}
use Rattle.ll_verdict.specs.declared.reply.Outcome.{Outcome}
use Rattle.ll_verdict.specs.declared.reply.Outcome.TheVariants.{Text, Media, NotFound, TooFar, Busy, Timeout}
use Rattle.ll_verdict.specs.declared.reply.Reply.{Reply}
use Rattle.ll_verdict.specs.declared.reply.Settled.{Settled}
use Rattle.ll_entry.specs.Told.{as_told, entry_after, outcome_of_reply}

same_number : (m n : ℕ) → (m == n) ≡ true → m ≡ n
same_number m n h = grind (arith, nat_tests)

same_updates : (a b : Option SkipKind) → same_update a b ≡ true → a ≡ b
same_updates None None h = refl
same_updates (Some Yes) (Some Yes) h = refl
same_updates (Some V2) (Some V2) h = refl
same_updates a b h = cc

same_outcomes : (a b : Outcome) → same_outcome a b ≡ true → a ≡ b
same_outcomes (Text m u) (Text n v) h =
    let p = and_parts (m == n) (same_update u v) h in ap₂ Text (same_number m n p.0) (same_updates u v p.1)
same_outcomes (Media m a) (Media n b) h =
    let p = and_parts (m == n) (a == b) h in ap₂ Media (same_number m n p.0) (same_number a b p.1)
same_outcomes NotFound NotFound h = refl
same_outcomes TooFar TooFar h = refl
same_outcomes Busy Busy h = refl
same_outcomes Timeout Timeout h = refl
same_outcomes a b h = cc

pub same_answers : (a b : Option Outcome) → same_answer a b ≡ true → a ≡ b
same_answers None None h = refl
same_answers (Some a) (Some b) h = ap Some (same_outcomes a b h)
same_answers a b h = cc

-- it can happen, and its reply is right
pub both : (can right : Bool) → where_it_can can right ≡ None → (can ≡ true) × (right ≡ true)
both true true h = (refl, refl)
both true false h = cc
both false right h = cc

free : (o : Option PublishFault) (e : Option Recorded) → unless_refused o ≡ None → cond (is_none o) e None ≡ e
free None e h = refl
free (Some fault) e h = cc

not_full : (full : Bool) (e : Option Recorded) → not full ≡ true → cond full None e ≡ e
not_full full e h = ap (λ b. cond b None e) (not-true full h)

ask-told : (c : Configuration) (before : List Event) (ask n : ℕ) (want : WantValue) (reply answer : Option Outcome) (full : Bool)
    → where_it_can (ask == n && not full) (same_answer reply answer) ≡ None
    → cond full None (Some (recorded.Ask n want answer)) ≡ Some (recorded.Ask ask want reply)
ask-told c before ask n want reply answer full h =
    let p = both (ask == n && not full) (same_answer reply answer) h in
    let q = and_parts (ask == n) (not full) p.0 in
    not_full full (Some (recorded.Ask n want answer)) q.1
    ∙ ap (λ n. Some (recorded.Ask n want answer)) (sym (same_number ask n q.0))
    ∙ ap (λ o. Some (recorded.Ask ask want o)) (sym (same_answers reply answer p.1))

clock-told : (ms : ℕ) (early full : Bool) → where_it_can (early && not full) true ≡ None
    → cond full None (cond early (Some (recorded.Clock ms)) None) ≡ Some (recorded.Clock ms)
clock-told ms early full h =
    let q = and_parts early (not full) (both (early && not full) true h).0 in
    not_full full (cond early (Some (recorded.Clock ms)) None) q.1 ∙ ap (λ b. cond b (Some (recorded.Clock ms)) None) q.0

-- ---- the same from the other side

pub right : (can same : Bool) → can ≡ true → same ≡ true → where_it_can can same ≡ None
right can same a b = ap (λ x. where_it_can x same) a ∙ ap (λ x. where_it_can true x) b

pub own : (n : ℕ) → (n == n) ≡ true
own n = grind (arith, nat_tests)

same-update : (u : Option SkipKind) → same_update u u ≡ true
same-update None = refl
same-update (Some Yes) = refl
same-update (Some V2) = refl

same-outcome : (o : Outcome) → same_outcome o o ≡ true
same-outcome (Text n u) = ap₂ (λ a b. a && b) (own n) (same-update u)
same-outcome (Media n size) = ap₂ (λ a b. a && b) (own n) (own size)
same-outcome NotFound = refl
same-outcome TooFar = refl
same-outcome Busy = refl
same-outcome Timeout = refl

pub same-answer : (o : Option Outcome) → same_answer o o ≡ true
same-answer None = refl
same-answer (Some o) = same-outcome o

-- an entry that is there under a condition
where_it_is : (b : Bool) (x y : Recorded) → cond b (Some x) None ≡ Some y → (b ≡ true) × (x ≡ y)
where_it_is true x y h = (refl, cc)
where_it_is false x y h = cc

where_not_full : (full : Bool) (o : Option Recorded) (y : Recorded) → cond full None o ≡ Some y → (full ≡ false) × (o ≡ Some y)
where_not_full true o y h = cc
where_not_full false o y h = (refl, h)

none_is : (o : Option PublishFault) → is_none o ≡ true → o ≡ None
none_is None h = refl
none_is (Some fault) h = cc

handed_out : (ask : ℕ) (o : Option Outcome) (y : Recorded) → option_map (recorded.Collect ask) o ≡ Some y → (reply : Outcome) × (o ≡ Some reply) × (recorded.Collect ask reply ≡ y)
handed_out ask None y h = cc
handed_out ask (Some reply) y h = (reply, refl, cc)

-- ---- open requests, as the state of the events keeps them

find_by : {X Y Z : Type 0} (f : X → Y) (g : Y → Option Z) (x : X) (b : Bool) (o : Option Y) (p : Option X)
    → option_and_then g o ≡ option_and_then (λ x. g (f x)) p → option_and_then g (cond b (Some (f x)) o) ≡ option_and_then (λ x. g (f x)) (cond b (Some x) p)
find_by f g x true o p h = refl
find_by f g x false o p h = h

-- what is found among the values of a list is the value of what is found in it
find-map : {X Y Z : Type 0} (f : X → Y) (g : Y → Option Z) (p : Y → Bool) (xs : List X)
    → option_and_then g (find p (map f xs)) ≡ option_and_then (λ x. g (f x)) (find (λ x. p (f x)) xs)
find-map f g p [] = refl
find-map f g p (x ∷ xs) = find_by f g x (p (f x)) (find p (map f xs)) (find (λ x. p (f x)) xs) (find-map f g p xs)

any-map : {X Y : Type 0} (f : X → Y) (p : Y → Bool) (xs : List X) → list_any p (map f xs) ≡ list_any (λ x. p (f x)) xs
any-map f p [] = refl
any-map f p (x ∷ xs) = ap (λ b. p (f x) || b) (any-map f p xs)

settled-is : (c : Configuration) (before : List Event) (ask : ℕ) → settled_after c before ask ≡ outcome_of_reply c before ask
settled-is c before ask =
    ap (option_map (λ (s : Settled). outcome_of (reply_of s)))
    (find-map (slot_of c before) (λ s. s.settled) (λ s. s.entry.ticket == ask && is_some s.settled) (open_requests c before))

open-is : (c : Configuration) (before : List Event) (ask : ℕ) → is_open_after c before ask ≡ list_any (λ (r : Pending). r.ticket == ask) (open_requests c before)
open-is c before ask = any-map (slot_of c before) (has_ticket ask) (open_requests c before)

-- ---- what a format keeps

told_at_once : (v : Version) (o : Option Reply) → option_map (told_in v) (option_map outcome_of o) ≡ option_map (λ r. told_in v (outcome_of r)) o
told_at_once v None = refl
told_at_once v (Some r) = refl

told_unless : (v : Version) (full : Bool) (e : Recorded) → option_map (as_told v) (cond full None (Some e)) ≡ cond full None (Some (as_told v e))
told_unless v true e = refl
told_unless v false e = refl

told_out : (v : Version) (ask : ℕ) (o : Option Outcome) → option_map (as_told v) (option_map (recorded.Collect ask) o) ≡ option_map (recorded.Collect ask) (option_map (told_in v) o)
told_out v ask None = refl
told_out v ask (Some reply) = refl

-- format 2 keeps all of it
pub whole-outcome : (o : Outcome) → told_in Two o ≡ o
whole-outcome (Text n u) = refl
whole-outcome (Media n size) = refl
whole-outcome NotFound = refl
whole-outcome TooFar = refl
whole-outcome Busy = refl
whole-outcome Timeout = refl

pub whole-answer : (o : Option Outcome) → option_map (told_in Two) o ≡ o
whole-answer None = refl
whole-answer (Some o) = ap Some (whole-outcome o)

pub whole-entry : (e : Recorded) → as_told Two e ≡ e
whole-entry (recorded.Publish item) = refl
whole-entry (recorded.Ask ask want reply) = ap (recorded.Ask ask want) (whole-answer reply)
whole-entry (recorded.Clock ms) = refl
whole-entry (recorded.Collect ask reply) = ap (recorded.Collect ask) (whole-outcome reply)
whole-entry (recorded.Close ask) = refl

-- ---- the whole

pub steps-many : (before events : List Event) → length (steps_from before events) ≡ length events
steps-many before [] = refl
steps-many before (e ∷ events) = ap suc (steps-many (before ++ e ∷ []) events)

pub right-told : (v : Version) (c : Configuration) (before : List Event) (entry : Recorded) → fault_in v c before entry ≡ None
    → option_map (as_told v) (entry_after c before (event_of entry)) ≡ Some entry
right-told v c before (recorded.Publish item) h = ap (option_map (as_told v)) (free (refusal_after c before item) (Some (recorded.Publish item)) h)
right-told v c before (recorded.Ask ask want reply) h =
    let now = at_once c (held c before) before want in
    let full = is_full (length before) in
    let n = asks before + 1 in
    told_unless v full (recorded.Ask n want (option_map outcome_of now))
    ∙ ap (λ o. cond full None (Some (recorded.Ask n want o))) (told_at_once v now)
    ∙ ask-told c before ask n want reply (option_map (λ r. told_in v (outcome_of r)) now) full h
right-told v c before (recorded.Clock ms) h = ap (option_map (as_told v)) (clock-told ms (nat_le ms (2 ^ 60)) (is_full (length before)) h)
right-told v c before (recorded.Collect ask reply) h =
    let now = option_map (told_in v) (settled_after c before ask) in
    told_out v ask (outcome_of_reply c before ask)
    ∙ ap (λ o. option_map (recorded.Collect ask) (option_map (told_in v) o)) (sym (settled-is c before ask))
    ∙ ap (option_map (recorded.Collect ask)) (sym (same_answers (Some reply) now (both (is_open_after c before ask) (same_answer (Some reply) now) h).1))
right-told v c before (recorded.Close ask) h =
    ap (λ b. option_map (as_told v) (cond b (Some (recorded.Close ask)) None)) (sym (open-is c before ask) ∙ (both (is_open_after c before ask) true h).0)

whole_is : (o : Option Recorded) (entry : Recorded) → option_map (as_told Two) o ≡ Some entry → o ≡ Some entry
whole_is None entry h = cc
whole_is (Some e) entry h = ap Some (sym (whole-entry e)) ∙ h

-- an entry in which nothing is wrong in format 2 is the one of its event
pub right-whole : (c : Configuration) (before : List Event) (entry : Recorded) → fault_in Two c before entry ≡ None → entry_after c before (event_of entry) ≡ Some entry
right-whole c before entry h = whole_is (entry_after c before (event_of entry)) entry (right-told Two c before entry h)

abbrev IsRight : Version → Configuration → List Event → Event → Recorded → Type 0
IsRight v c before e entry = (fault_in v c before entry ≡ None) × (event_of entry ≡ e)

pub answered : (o : Option Settled) (reply : Outcome) → option_map (λ (s : Settled). outcome_of (reply_of s)) o ≡ Some reply → is_some o ≡ true
answered None reply h = cc
answered (Some s) reply h = refl

pub told-right : (v : Version) (c : Configuration) (before : List Event) (e : Event) (entry : Recorded) → entry_after c before e ≡ Some entry
    → IsRight v c before e (as_told v entry)
told-right v c before (Publish item) entry h =
    let p = where_it_is (is_none (refusal_after c before item)) (recorded.Publish item) entry h in
    subst (λ x. IsRight v c before (Publish item) (as_told v x)) p.1 (ap unless_refused (none_is (refusal_after c before item) p.0), refl)
told-right v c before (Ask want) entry h =
    let now = at_once c (held c before) before want in
    let answer = option_map (told_in v) (option_map outcome_of now) in
    let x : Recorded = recorded.Ask (asks before + 1) want (option_map outcome_of now) in
    let p = where_not_full (is_full (length before)) (Some x) entry h in
    let is : x ≡ entry = cc (p.1) in
    subst (λ x. IsRight v c before (Ask want) (as_told v x)) is (
      right (asks before + 1 == asks before + 1 && not (is_full (length before))) (same_answer answer (option_map (λ r. told_in v (outcome_of r)) now))
          (ap (λ b. b && not (is_full (length before))) (own (asks before + 1)) ∙ ap not p.0)
          (ap (same_answer answer) (sym (told_at_once v now)) ∙ same-answer answer),
      refl,
    )
told-right v c before (Clock ms) entry h =
    let p = where_not_full (is_full (length before)) (cond (nat_le ms (2 ^ 60)) (Some (recorded.Clock ms)) None) entry h in
    let q = where_it_is (nat_le ms (2 ^ 60)) (recorded.Clock ms) entry p.1 in
    subst (λ x. IsRight v c before (Clock ms) (as_told v x)) q.1
    (right (nat_le ms (2 ^ 60) && not (is_full (length before))) true (ap (λ b. b && not (is_full (length before))) q.0 ∙ ap not p.0) refl, refl)
told-right v c before (Collect ask) entry h =
    let p = handed_out ask (outcome_of_reply c before ask) entry h in
    let is = settled-is c before ask ∙ p.1 in
    let told = told_in v p.0 in
    subst (λ x. IsRight v c before (Collect ask) (as_told v x)) p.2 (
      right (is_open_after c before ask) (same_answer (Some told) (option_map (told_in v) (settled_after c before ask)))
          (open-ready ask (state_of c before).slots (answered (reply_at ask (state_of c before).slots) p.0 is))
          (ap (λ o. same_answer (Some told) (option_map (told_in v) o)) is ∙ same-answer (Some told)),
      refl,
    )
told-right v c before (Close ask) entry h =
    let p = where_it_is (list_any (λ (r : Pending). r.ticket == ask) (open_requests c before)) (recorded.Close ask) entry h in
    subst (λ x. IsRight v c before (Close ask) (as_told v x)) p.1 (right (is_open_after c before ask) true (open-is c before ask ∙ p.0) refl, refl)

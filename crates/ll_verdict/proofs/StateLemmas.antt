-- The state after one more event. A request of the list stands against its entry of the state, event by event: what is still open, and
-- what reply it has by now. A request that is itself the event is not decided by it.
use Rattle.std.proofs.Common.{◌≡◌, ℕ, ◌+◌, ◌≤◌, ◌==◌, List, [], ◌∷◌, ◌++◌, Bool, true, false, not, ◌&&◌, ◌||◌, cond, if◌then◌else◌, nat_lt, nat_le, Option, Some, None, is_none, is_some, option_and_then, refl, ap, ap₂, ◌∙◌, sym, true≢false, filter, map, length, length-append, append-nil, arith}
use Rattle.std.specs.Option.{option_or}
use Rattle.std.proofs.lemmas.Bool.Decides.{nat_tests}
use Rattle.std.proofs.lemmas.List.Elements.{filter-append}
use Rattle.std.proofs.lemmas.List.{map-append}
use Rattle.ll_settings.specs.Settings.{Configuration}
use Rattle.ll_item.specs.declared.item.Item.{Item}
use Rattle.ll_directive.specs.Targets.{WantValue}
use Rattle.ll_verdict.specs.declared.wanted.Wanted.{Wanted}
use Rattle.ll_verdict.specs.declared.entry.Slot.{Slot}
use Rattle.ll_verdict.specs.declared.reply.Reply.{Reply}
use Rattle.ll_verdict.specs.declared.reply.Settled.{Settled}
use Rattle.ll_verdict.specs.Events.{Event, Publish, Ask, Collect, Close, Clock, Step, until, items, time, asks, taken, later}
use Rattle.ll_verdict.specs.State.{State, slot_of, slot_by, is_collect, is_waiting, leaves, gone, state_of, settle, stays, answer_of, next, waiting_in, StateLaw}
use Rattle.ll_verdict.specs.Verdict.{wanted_of, Pending, deadline, is_there, is_close, closes, settles, decided, reply, reply_at_step, reply_by, reply_with, held, held_by, at_once, waiting}
use Rattle.ll_verdict.proofs.ListLemmas.{each-map, Agree, round, counted_round}
use Rattle.ll_verdict.proofs.StepLemmas.{at, ends, along, items-snoc, time-snoc, asks-snoc, held-snoc, decided-snoc, gone-snoc, or_false, Earlier, held-earlier}

-- a request is undecided exactly when it is open and has no reply
abbrev pub Consistent : Configuration → List Event → Pending → Type 0
Consistent c es r = is_none (decided c es r) ≡ (not (gone c es r) && is_none (reply c es r))

still_false : (g y x : Bool) → false ≡ (not g && x) → false ≡ (not (g || y) && x)
still_false true y x h = refl
still_false false true x h = refl
still_false false false x h = h

abbrev reply_if : Configuration → Pending → Step → Bool → Option Settled
reply_if c r s b = if b then None else Some (reply_with c (items c (until s)) r.wanted)

first_end : (c : Configuration) (r : Pending) (s : Step) (st b k g : Bool) → closes r s ≡ b → true ≡ (not g && true)
    → is_none (cond (st || b) (Some s) None) ≡ (not (g || (b || (k && false))) && is_none (option_and_then (reply_at_step c r) (cond (st || b) (Some s) None)))
first_end c r s st b k true e h = absurd (true≢false h)
first_end c r s true true k false e h = refl
first_end c r s false true k false e h = refl
first_end c r s true false true false e h = ap (λ b. is_none (reply_if c r s b)) (sym e)
first_end c r s true false false false e h = ap (λ b. is_none (reply_if c r s b)) (sym e)
first_end c r s false false true false e h = refl
first_end c r s false false false false e h = refl

consistent_by : (c : Configuration) (r : Pending) (s : Step) (d : Option Step) (g k : Bool)
    → is_none d ≡ (not g && is_none (option_and_then (reply_at_step c r) d))
    → is_none (option_or d (cond (ends c r s) (Some s) None))
    ≡ (not (g || (closes r s || (k && is_some (option_and_then (reply_at_step c r) d)))) && is_none (option_and_then (reply_at_step c r) (option_or d (cond (ends c r s) (Some s) None))))
consistent_by c r s None g k h = first_end c r s (settles c r s) (closes r s) k g refl h
consistent_by c r s (Some s0) g k h = still_false g (closes r s || (k && is_some (reply_at_step c r s0))) (is_none (reply_at_step c r s0)) h

pub consistent : (c : Configuration) (r : Pending) (es : List Event) → Consistent c es r
consistent c r es = along (λ es. Consistent c es r) refl
    (λ es e h. rw (decided-snoc c es e r, gone-snoc c es e r) (consistent_by c r (at es e) (decided c es r) (gone c es r) (is_collect r.ticket e) h)) es

-- an open request after one more event

reply_none : (c : Configuration) (r : Pending) (s : Step) (st b k : Bool) (v : Settled) → closes r s ≡ b → reply_with c (items c (until s)) r.wanted ≡ v
    → not (b || k) ≡ true → option_and_then (reply_at_step c r) (cond (st || b) (Some s) None) ≡ cond st (Some v) None
reply_none c r s st true k v e f free = absurd (true≢false (sym free))
reply_none c r s true false k v e f free = ap (reply_if c r s) e ∙ ap Some f
reply_none c r s false false k v e f free = refl

reply_by_end : (c : Configuration) (r : Pending) (s : Step) (d : Option Step) (g k st : Bool) (v : Settled)
    → is_none d ≡ (not g && is_none (option_and_then (reply_at_step c r) d)) → settles c r s ≡ st → reply_with c (items c (until s)) r.wanted ≡ v
    → not (g || (closes r s || k)) ≡ true
    → option_and_then (reply_at_step c r) (option_or d (cond (ends c r s) (Some s) None))
    ≡ cond (is_none (option_and_then (reply_at_step c r) d) && st) (Some v) (option_and_then (reply_at_step c r) d)
reply_by_end c r s d true k st v h e f free = absurd (true≢false (sym free))
reply_by_end c r s None false k st v h e f free =
    ap (λ b. option_and_then (reply_at_step c r) (cond (b || closes r s) (Some s) None)) e ∙ reply_none c r s st (closes r s) k v refl f free
reply_by_end c r s (Some s0) false k st v h e f free = ap (λ b. cond (b && st) (Some v) (reply_at_step c r s0)) h

after : (r : Pending) (es : List Event) → Earlier es r → nat_lt (length r.before) (length es) ≡ true
after r es lt = grind (arith, nat_tests)

settles_now : (c : Configuration) (es : List Event) (e : Event) (r : Pending) → Earlier es r
    → settles c r (at es e) ≡ (is_there c (taken c (items c es) e) r.wanted || nat_le (deadline c r) (later (time es) e))
settles_now c es e r lt =
    ap (λ b. b && (is_there c (items c (es ++ e ∷ [])) r.wanted || nat_le (deadline c r) (time (es ++ e ∷ [])))) (after r es lt)
    ∙ ap₂ (λ xs now. is_there c xs r.wanted || nat_le (deadline c r) now) (items-snoc c es e) (time-snoc es e)

closes_now : (es : List Event) (e : Event) (r : Pending) → Earlier es r → closes r (at es e) ≡ is_close r.ticket e
closes_now es e r lt = ap (λ b. b && is_close r.ticket e) (after r es lt)

stays_unless : (c : Configuration) (es : List Event) (e : Event) (r : Pending)
    → stays e (slot_of c es r) ≡ not (is_close r.ticket e || (is_collect r.ticket e && is_some (reply c es r)))
stays_unless c es (Publish item) r = refl
stays_unless c es (Ask w) r = refl
stays_unless c es (Collect t) r = refl
stays_unless c es (Close t) r = ap not (sym (or_false (r.ticket == t)))
stays_unless c es (Clock ms) r = refl

not_or : (a b : Bool) → not (a || b) ≡ (not a && not b)
not_or true b = refl
not_or false b = refl

kept_now : (c : Configuration) (es : List Event) (e : Event) (r : Pending) → Earlier es r
    → not (gone c (es ++ e ∷ []) r) ≡ (not (gone c es r) && stays e (slot_of c es r))
kept_now c es e r lt =
    ap not (gone-snoc c es e r) ∙ not_or (gone c es r) (leaves c r (at es e))
    ∙ ap (λ b. not (gone c es r) && b)
    (ap (λ b. not (b || (is_collect r.ticket e && is_some (reply c es r)))) (closes_now es e r lt) ∙ sym (stays_unless c es e r))

abbrev change : Configuration → List Event → Event → Slot → Slot
change c es e = settle c (taken c (items c es) e) (later (time es) e)

reply_next : (c : Configuration) (es : List Event) (e : Event) (r : Pending) → Earlier es r → not (gone c (es ++ e ∷ []) r) ≡ true
    → reply c (es ++ e ∷ []) r ≡ (change c es e (slot_of c es r)).settled
reply_next c es e r lt free =
    ap (option_and_then (reply_at_step c r)) (decided-snoc c es e r)
    ∙ reply_by_end c r (at es e) (decided c es r) (gone c es r) (is_collect r.ticket e && is_some (reply c es r)) _ _ (consistent c r es) (settles_now c es e r lt)
    (ap (λ xs. reply_with c xs r.wanted) (items-snoc c es e)) (ap not (sym (gone-snoc c es e r)) ∙ free)

slot_now : (c : Configuration) (es : List Event) (e : Event) (r : Pending) → Earlier es r → not (gone c (es ++ e ∷ []) r) ≡ true
    → slot_of c (es ++ e ∷ []) r ≡ change c es e (slot_of c es r)
slot_now c es e r lt free = ap (λ x. record (slot_of c es r) { settled = x }) (reply_next c es e r lt free)

abbrev open_now : Configuration → List Event → Pending → Bool
open_now c es r = not (gone c es r)

agree : (c : Configuration) (es : List Event) (e : Event) (r : Pending) → Earlier es r
    → Agree (open_now c es) (open_now c (es ++ e ∷ [])) (slot_of c es) (slot_of c (es ++ e ∷ [])) (stays e) (change c es e) r
agree c es e r lt = record { kept = kept_now c es e r lt; same = slot_now c es e r lt }

-- the requests that had to wait before
old_slots : (c : Configuration) (es : List Event) (e : Event)
    → map (slot_of c (es ++ e ∷ [])) (filter (open_now c (es ++ e ∷ [])) (held c es)) ≡ map (change c es e) (filter (stays e) (state_of c es).slots)
old_slots c es e =
    round (open_now c es) (open_now c (es ++ e ∷ [])) (slot_of c es) (slot_of c (es ++ e ∷ [])) (stays e) (change c es e) (held c es)
    (each-map (Earlier es) (Agree (open_now c es) (open_now c (es ++ e ∷ [])) (slot_of c es) (slot_of c (es ++ e ∷ [])) (stays e) (change c es e))
    (agree c es e) (held c es) (held-earlier c es))

-- as many wait as the state says
waiting-count : (c : Configuration) (es : List Event) → waiting c es (held c es) ≡ waiting_in (state_of c es).slots
waiting-count c es =
    counted_round (open_now c es) (λ r. is_none (decided c es r)) (slot_of c es) is_waiting (held c es)
    (each-map (Earlier es) (Consistent c es) (λ r lt. consistent c r es) (held c es) (held-earlier c es))

-- the reply at once is that of the state
pub at_once-is : (c : Configuration) (es : List Event) (w : WantValue) → at_once c (held c es) es w ≡ answer_of c (state_of c es) w
at_once-is c es w = ap (λ n. reply_by c n (items c es) (wanted_of c w)) (waiting-count c es)

-- a request that isn't made yet
unborn : (c : Configuration) (r : Pending) (es : List Event) → length es ≤ length r.before + 1 → decided c es r ≡ None
unborn c r es = along (λ es. length es ≤ length r.before + 1 → decided c es r ≡ None) (λ _. refl)
    (λ es e h le.
    let short : length es + 1 ≤ length r.before + 1 = omega (arith, length-append es (e ∷ [])) in
    let early : nat_lt (length r.before) (length es) ≡ false = grind (arith, nat_tests, short) in
    decided-snoc c es e r ∙ ap₂ (λ d b. option_or d (cond ((b && (is_there c (items c (es ++ e ∷ [])) r.wanted || nat_le (deadline c r) (time (es ++ e ∷ [])))) || (b && is_close r.ticket e)) (Some (at es e)) None)) (h (omega arith)) early) es

and_none : (k : Bool) → (k && false) ≡ false
and_none true = refl
and_none false = refl

unborn_gone : (c : Configuration) (r : Pending) (es : List Event) → length es ≤ length r.before + 1 → gone c es r ≡ false
unborn_gone c r es = along (λ es. length es ≤ length r.before + 1 → gone c es r ≡ false) (λ _. refl)
    (λ es e h le.
    let short : length es + 1 ≤ length r.before + 1 = omega (arith, length-append es (e ∷ [])) in
    let early : nat_lt (length r.before) (length es) ≡ false = grind (arith, nat_tests, short) in
    gone-snoc c es e r ∙ ap₂ (λ g b. g || ((b && is_close r.ticket e) || (is_collect r.ticket e && is_some (reply c es r)))) (h (omega arith)) early
    ∙ ap (λ d. is_collect r.ticket e && is_some (option_and_then (reply_at_step c r) d)) (unborn c r es (omega arith))
    ∙ and_none (is_collect r.ticket e)) es

-- the entry of a request that is the event
born : (c : Configuration) (es : List Event) (w : WantValue) (o : Option Reply) (a : Option Wanted)
    → map (slot_of c (es ++ Ask w ∷ [])) (filter (open_now c (es ++ Ask w ∷ [])) (held_by o (asks es + 1) es a)) ≡ slot_by c o (state_of c es) a
born c es w None None = refl
born c es w (Some reply) a = refl
born c es w None (Some a) =
    let r : Pending = record { ticket = asks es + 1; wanted = a; before = es } in
    let short : length (es ++ Ask w ∷ []) ≤ length es + 1 = omega (arith, length-append es (Ask w ∷ [])) in
    ap (λ b. map (slot_of c (es ++ Ask w ∷ [])) (cond (not b) (r ∷ []) [])) (unborn_gone c r (es ++ Ask w ∷ []) short)
    ∙ ap (λ d. record (slot_of c es r) { settled = option_and_then (reply_at_step c r) d } ∷ []) (unborn c r (es ++ Ask w ∷ []) short)

-- the list after an event that is no request
unchanged : (c : Configuration) (es : List Event) (e : Event) → held c (es ++ e ∷ []) ≡ held c es
    → (state_of c (es ++ e ∷ [])).slots ≡ map (change c es e) (filter (stays e) (state_of c es).slots) ++ []
unchanged c es e h =
    ap (λ rs. map (slot_of c (es ++ e ∷ [])) (filter (open_now c (es ++ e ∷ [])) rs)) h ∙ old_slots c es e
    ∙ sym (append-nil (map (change c es e) (filter (stays e) (state_of c es).slots)))

slots-snoc : (c : Configuration) (es : List Event) (e : Event) → (state_of c (es ++ e ∷ [])).slots ≡ (next c (state_of c es) e).slots
slots-snoc c es (Publish item) = unchanged c es (Publish item) (held-snoc c es (Publish item))
slots-snoc c es (Collect t) = unchanged c es (Collect t) (held-snoc c es (Collect t))
slots-snoc c es (Close t) = unchanged c es (Close t) (held-snoc c es (Close t))
slots-snoc c es (Clock ms) = unchanged c es (Clock ms) (held-snoc c es (Clock ms))
slots-snoc c es (Ask w) =
    let more : List Pending = held_by (at_once c (held c es) es w) (asks es + 1) es (wanted_of c w) in
    ap (λ rs. map (slot_of c (es ++ Ask w ∷ [])) (filter (open_now c (es ++ Ask w ∷ [])) rs)) (held-snoc c es (Ask w))
    ∙ ap (map (slot_of c (es ++ Ask w ∷ []))) (filter-append (open_now c (es ++ Ask w ∷ [])) (held c es) more)
    ∙ map-append (slot_of c (es ++ Ask w ∷ [])) (filter (open_now c (es ++ Ask w ∷ [])) (held c es)) (filter (open_now c (es ++ Ask w ∷ [])) more)
    ∙ ap₂ (λ xs ys. xs ++ ys) (old_slots c es (Ask w))
    (born c es w (at_once c (held c es) es w) (wanted_of c w) ∙ ap (λ o. slot_by c o (state_of c es) (wanted_of c w)) (at_once-is c es w))

abbrev pub state_with : List Item → ℕ → ℕ → List Slot → ℕ → State
state_with xs now k slots n = record { items = xs; time = now; asks = k; slots = slots; events = n }

pub state-snoc : StateLaw
state-snoc c es e =
    ap₂ (λ xs now. state_with xs now (asks (es ++ e ∷ [])) (state_of c (es ++ e ∷ [])).slots (length (es ++ e ∷ []))) (items-snoc c es e) (time-snoc es e)
    ∙ ap₂ (λ k n. state_with (taken c (items c es) e) (later (time es) e) k (state_of c (es ++ e ∷ [])).slots n) (asks-snoc es e) (length-append es (e ∷ []))
    ∙ ap (λ slots. record (next c (state_of c es) e) { slots = slots }) (slots-snoc c es e)

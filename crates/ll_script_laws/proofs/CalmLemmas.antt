-- Only an item and a reading of the clock make replies due, and a reply that is handed out is due no more.
use Rattle.std.proofs.Common.{◌≡◌, ℕ, ◌+◌, ◌*◌, ◌≤◌, ◌==◌, ◌&&◌, ◌||◌, List, [], ◌∷◌, ◌++◌, Bool, true, false, cond, not, Option, Some, None, is_none, is_some, refl, ap, ap₂, sym, ◌∙◌, subst, true≢false, filter, find, length, length-append, map, nat_le, option_and_then, option_map, if◌then◌else◌, arith}
use Rattle.std.specs.List.{list_any}
use Rattle.std.proofs.lemmas.Bool.Decides.{nat_tests}
use Rattle.std.proofs.lemmas.List.Elements.{filter-append}
use Rattle.ll_verdict.specs.Waiting.{first_ready, is_ready, is_ready_at, settled_in, ticket_in}
use Rattle.ll_settings.specs.Settings.{Configuration}
use Rattle.ll_item.specs.declared.item.Item.{Item}
use Rattle.ll_verdict.specs.Events.{Event, Publish, Ask, Collect, Close, Clock, items, later, taken, time}
use Rattle.ll_verdict.specs.State.{State, answer_of, new_slots, next, settle, slot_by, slot_of, state_of, stays, waiting_in}
use Rattle.ll_verdict.specs.Verdict.{Pending, is_there, reply_by, reply_with, wanted_of}
use Rattle.ll_verdict.specs.declared.entry.Slot.{Slot}
use Rattle.ll_verdict.specs.declared.reply.Reply.{Reply}
use Rattle.ll_verdict.specs.declared.reply.Settled.{Settled}
use Rattle.ll_verdict.specs.declared.wanted.Wanted.{Wanted}
use Rattle.ll_verdict.proofs.HintLemmas.{awaited-missing}
use Rattle.ll_verdict.proofs.ListLemmas.{Each, each-append}
use Rattle.ll_verdict.proofs.StateLemmas.{state-snoc}
use Rattle.ll_verdict.proofs.StepLemmas.{along}
use Rattle.ll_script_rooms.specs.World.{Channel, first_due, with_event}
use Rattle.ll_script_rooms.proofs.DueLemmas.{first_is, reply_is}
use Rattle.ll_script_rooms.proofs.TieLemmas.{none_some}
use Rattle.ll_script_rooms.proofs.WaitLemmas.{due_told}

-- ---- what has no reply yet has none at hand

settled_by : (o : Option Settled) (b : Bool) (s : Settled) → (if is_none o && b then Some s else o) ≡ None → b ≡ false
settled_by None true s h = absurd (none_some s (sym h))
settled_by None false s h = refl
settled_by (Some x) b s h = absurd (none_some x (sym h))

stays_by : (o : Option Settled) (b : Bool) (s : Settled) → (o ≡ None → b ≡ false) → (if is_none o && b then Some s else o) ≡ o
stays_by None b s h = ap (λ b. if b then Some s else None) (h refl)
stays_by (Some x) b s h = refl

module _ (c : Configuration) where
  abbrev IsUnripe : List Item → ℕ → Slot → Type 0
  IsUnripe list time s = s.settled ≡ None → (is_there c list s.entry.wanted || nat_le s.entry.deadline time) ≡ false

  each-settled : (list : List Item) (time : ℕ) (ss : List Slot) → Each (IsUnripe list time) (map (settle c list time) ss)
  each-settled list time [] = tt
  each-settled list time (s ∷ ss) = (
    settled_by s.settled (is_there c list s.entry.wanted || nat_le s.entry.deadline time) (reply_with c list s.entry.wanted),
    each-settled list time ss,
  )

  settled-same : (list : List Item) (time : ℕ) (s : Slot) → IsUnripe list time s → settle c list time s ≡ s
  settled-same list time s h =
      ap (λ (o : Option Settled). record s { settled = o })
      (stays_by s.settled (is_there c list s.entry.wanted || nat_le s.entry.deadline time) (reply_with c list s.entry.wanted) h)

  new-unripe : 1 ≤ c.target → (n : ℕ) (st : State) (r : Option Reply) (a : Option Wanted) → reply_by c n st.items a ≡ r → Each (IsUnripe st.items st.time) (slot_by c r st a)
  new-unripe low n st (Some r) a h = tt
  new-unripe low n st None None h = tt
  new-unripe low n st None (Some a) h =
      let away : is_there c st.items a ≡ false = awaited-missing c n st.items a h in
      let early : nat_le (st.time + 3000 * c.target) st.time ≡ false = grind (arith, nat_tests, low) in
      ((λ none. ap₂ (λ x y. x || y) away early), tt)

  next-unripe : 1 ≤ c.target → (st : State) (e : Event) → Each (IsUnripe (next c st e).items (next c st e).time) (next c st e).slots
  next-unripe low st e =
      each-append (IsUnripe (next c st e).items (next c st e).time) (map (settle c (taken c st.items e) (later st.time e)) (filter (stays e) st.slots)) (new_slots c st e)
      (each-settled (taken c st.items e) (later st.time e) (filter (stays e) st.slots)) (by e)
    where
      by : (e : Event) → Each (IsUnripe (next c st e).items (next c st e).time) (new_slots c st e)
      by (Publish item) = tt
      by (Ask want) = new-unripe low (waiting_in st.slots) st (answer_of c st want) (wanted_of c want) refl
      by (Collect t) = tt
      by (Close t) = tt
      by (Clock ms) = tt

  unripe : 1 ≤ c.target → (es : List Event) → Each (IsUnripe (items c es) (time es)) (state_of c es).slots
  unripe low es =
      along (λ es. Each (IsUnripe (items c es) (time es)) (state_of c es).slots) tt
      (λ es e h. subst (λ (st : State). Each (IsUnripe st.items st.time) st.slots) (sym (state-snoc c es e)) (next-unripe low (state_of c es) e)) es

-- ---- the number of replies that are there

abbrev ready : List Slot → ℕ
ready ss = length (filter is_ready ss)

one_more : (s : Slot) (b : Bool) (xs ys : List Slot) → length xs ≤ length ys → length (cond b (s ∷ xs) xs) ≤ length (cond b (s ∷ ys) ys)
one_more s true xs ys h = omega (arith, h)
one_more s false xs ys h = h

one_less : (s : Slot) (b : Bool) (xs ys : List Slot) → length xs ≤ length ys → length xs ≤ length (cond b (s ∷ ys) ys)
one_less s true xs ys h = omega (arith, h)
one_less s false xs ys h = h

one_gone : (s : Slot) (b : Bool) (xs ys : List Slot) → b ≡ true → length xs ≤ length ys → length xs + 1 ≤ length (cond b (s ∷ ys) ys)
one_gone s true xs ys e h = omega (arith, h)
one_gone s false xs ys e h = absurd (true≢false (sym e))

one_still : (s : Slot) (b : Bool) (xs ys : List Slot) → length xs + 1 ≤ length ys → length (cond b (s ∷ xs) xs) + 1 ≤ length (cond b (s ∷ ys) ys)
one_still s true xs ys h = omega (arith, h)
one_still s false xs ys h = h

module _ (f : Slot → Slot) where
  abbrev AreSame : List Slot → Type 0
  AreSame ss = Each (λ s. f s ≡ s) ss

  fewer : (p : Slot → Bool) (ss : List Slot) → AreSame ss → ready (map f (filter p ss)) ≤ ready ss
  fewer p [] h = omega arith
  fewer p (s ∷ ss) h = by (p s) (fewer p ss h.1)
    where
      by : (b : Bool) → ready (map f (filter p ss)) ≤ ready ss → ready (map f (cond b (s ∷ filter p ss) (filter p ss))) ≤ ready (s ∷ ss)
      by true ih =
          subst (λ t. ready (t ∷ map f (filter p ss)) ≤ ready (s ∷ ss)) (sym h.0)
          (one_more s (is_ready s) (filter is_ready (map f (filter p ss))) (filter is_ready ss) ih)
      by false ih = one_less s (is_ready s) (filter is_ready (map f (filter p ss))) (filter is_ready ss) ih

  -- a reply is handed out
  one_fewer : (t : ℕ) (ss : List Slot) → AreSame ss → list_any (is_ready_at t) ss ≡ true → ready (map f (filter (stays (Collect t)) ss)) + 1 ≤ ready ss
  one_fewer t [] h e = cc
  one_fewer t (s ∷ ss) h e = by (s.entry.ticket == t) (is_ready s) refl (one_fewer t ss h.1) e
    where
      by : (a b : Bool) → is_ready s ≡ b → (list_any (is_ready_at t) ss ≡ true → ready (map f (filter (stays (Collect t)) ss)) + 1 ≤ ready ss)
          → (a && b || list_any (is_ready_at t) ss) ≡ true
          → ready (map f (cond (not (a && b)) (s ∷ filter (stays (Collect t)) ss) (filter (stays (Collect t)) ss))) + 1 ≤ ready (s ∷ ss)
      by true true r ih e = one_gone s (is_ready s) (filter is_ready (map f (filter (stays (Collect t)) ss))) (filter is_ready ss) r (fewer (stays (Collect t)) ss h.1)
      by true false r ih e =
          subst (λ u. ready (u ∷ map f (filter (stays (Collect t)) ss)) + 1 ≤ ready (s ∷ ss)) (sym h.0)
          (one_still s (is_ready s) (filter is_ready (map f (filter (stays (Collect t)) ss))) (filter is_ready ss) (ih e))
      by false b r ih e =
          subst (λ u. ready (u ∷ map f (filter (stays (Collect t)) ss)) + 1 ≤ ready (s ∷ ss)) (sym h.0)
          (one_still s (is_ready s) (filter is_ready (map f (filter (stays (Collect t)) ss))) (filter is_ready ss) (ih e))

none_new : (c : Configuration) (r : Option Reply) (st : State) (a : Option Wanted) → ready (slot_by c r st a) ≡ 0
none_new c (Some r) st a = refl
none_new c None st None = refl
none_new c None st (Some a) = refl

found-any : {X A : Type 0} (f : X → Option A) (p : X → Bool) (xs : List X) → is_some (option_and_then f (find p xs)) ≡ true → list_any p xs ≡ true
found-any f p [] h = cc
found-any f p (x ∷ xs) h = by (p x) (found-any f p xs) h
  where
    by : (b : Bool) → (is_some (option_and_then f (find p xs)) ≡ true → list_any p xs ≡ true) → is_some (option_and_then f (cond b (Some x) (find p xs))) ≡ true
        → (b || list_any p xs) ≡ true
    by true ih h = refl
    by false ih h = ih h

-- ---- channels

-- an event that makes no reply due
abbrev pub IsSilent : Event → Type 0
IsSilent (Publish item) = ⊥
IsSilent (Ask want) = Unit
IsSilent (Collect ticket) = Unit
IsSilent (Close ticket) = Unit
IsSilent (Clock ms) = ⊥

-- at most `n` replies of the channel are there and not handed out
pub record IsCalm (n : ℕ) (c : Channel) : Type 0 where
  pub low : 1 ≤ c.settings.target
  pub few : ready (state_of c.settings c.events).slots ≤ n

module _ (c : Channel) (low : 1 ≤ c.settings.target) where
  abbrev slots : List Slot
  slots = (state_of c.settings c.events).slots

  abbrev now_settled : Slot → Slot
  now_settled = settle c.settings (items c.settings c.events) (time c.events)

  same_slots : AreSame now_settled slots
  same_slots = all slots (unripe c.settings low c.events)
    where
      all : (ss : List Slot) → Each (IsUnripe c.settings (items c.settings c.events) (time c.events)) ss → AreSame now_settled ss
      all [] h = tt
      all (s ∷ ss) h = (settled-same c.settings (items c.settings c.events) (time c.events) s h.0, all ss h.1)

  -- with an event that makes none due
  after : (e : Event) (new : List Slot) → (next c.settings (state_of c.settings c.events) e).slots ≡ map now_settled (filter (stays e) slots) ++ new → ready new ≡ 0
      → ready (state_of c.settings (c.events ++ e ∷ [])).slots ≡ ready (map now_settled (filter (stays e) slots))
  after e new is none =
      ap (λ (st : State). ready st.slots) (state-snoc c.settings c.events e) ∙ ap ready is
      ∙ ap length (filter-append is_ready (map now_settled (filter (stays e) slots)) new)
      ∙ length-append (filter is_ready (map now_settled (filter (stays e) slots))) (filter is_ready new)
      ∙ ap (λ k. ready (map now_settled (filter (stays e) slots)) + k) none ∙ omega arith

  still-calm : (n : ℕ) (e : Event) → IsSilent e → ready slots ≤ n → ready (state_of c.settings (c.events ++ e ∷ [])).slots ≤ n
  still-calm n (Publish item) m few = absurd m
  still-calm n (Ask want) m few =
      let st = state_of c.settings c.events in
      let none = none_new c.settings (answer_of c.settings st want) st (wanted_of c.settings want) in
      omega (arith, after (Ask want) (new_slots c.settings st (Ask want)) refl none, fewer now_settled (stays (Ask want)) slots same_slots, few)
  still-calm n (Collect t) m few = omega (arith, after (Collect t) [] refl refl, fewer now_settled (stays (Collect t)) slots same_slots, few)
  still-calm n (Close t) m few = omega (arith, after (Close t) [] refl refl, fewer now_settled (stays (Close t)) slots same_slots, few)
  still-calm n (Clock ms) m few = absurd m

pub silent-calm : (n : ℕ) (c : Channel) (e : Event) → IsSilent e → IsCalm n c → IsCalm n (with_event e c)
silent-calm n c e m h = record { low = h.low; few = still-calm c h.low n e m h.few }

due-any : (c : Channel) (r : Pending) → first_due c.settings c.events ≡ Some r → list_any (is_ready_at r.ticket) (state_of c.settings c.events).slots ≡ true
due-any c r due =
    found-any settled_in (is_ready_at r.ticket) (state_of c.settings c.events).slots (ap is_some (reply_is c.settings c.events r due) ∙ due_told c r due)

pub told-calm : (n : ℕ) (c : Channel) (r : Pending) → first_due c.settings c.events ≡ Some r → IsCalm (n + 1) c → IsCalm n (with_event (Collect r.ticket) c)
told-calm n c r due h = record {
  low = h.low;
  few = omega (
    arith,
    after c h.low (Collect r.ticket) [] refl refl,
    one_fewer (now_settled c h.low) r.ticket (state_of c.settings c.events).slots (same_slots c h.low) (due-any c r due),
    h.few,
  );
}

-- if none is there, none is due
pub calm-none : (c : Channel) → IsCalm 0 c → first_due c.settings c.events ≡ None
calm-none c h = by (first_due c.settings c.events) refl
  where
    by : (o : Option Pending) → first_due c.settings c.events ≡ o → o ≡ None
    by None e = refl
    by (Some r) e =
        absurd (omega (arith, one_fewer (now_settled c h.low) r.ticket (state_of c.settings c.events).slots (same_slots c h.low) (due-any c r e), h.few))

-- if none is due, none is there
pub none-calm : (c : Channel) → 1 ≤ c.settings.target → first_due c.settings c.events ≡ None → IsCalm 0 c
none-calm c low none = record {
  low = low;
  few = none_ready (state_of c.settings c.events).slots (first_is c.settings c.events ∙ ap (λ o. option_map ticket_in (option_map (slot_of c.settings c.events) o)) none);
}
  where
    none_ready : (ss : List Slot) → first_ready ss ≡ None → ready ss ≤ 0
    none_ready [] h = omega arith
    none_ready (s ∷ ss) h = by (is_ready s) (none_ready ss) h
      where
        by : (b : Bool) → (first_ready ss ≡ None → ready ss ≤ 0) → option_map ticket_in (cond b (Some s) (find is_ready ss)) ≡ None
            → length (cond b (s ∷ filter is_ready ss) (filter is_ready ss)) ≤ 0
        by true ih h = absurd (none_some s.entry.ticket (sym h))
        by false ih h = ih h

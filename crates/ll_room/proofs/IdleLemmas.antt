-- After an event no open request is left that would settle: those that could have settled with it, and a new one isn't due yet.
use Rattle.std.proofs.Common.{◌≡◌, ℕ, ◌+◌, ◌*◌, ◌≤◌, List, [], ◌∷◌, Bool, true, false, ◌&&◌, ◌||◌, cond, nat_le, Option, Some, None, is_none, length, refl, ap, ap₂, sym, subst, filter, map, arith}
use Rattle.std.proofs.lemmas.Bool.Decides.{nat_tests}
use Rattle.ll_settings.specs.Settings.{Configuration}
use Rattle.ll_item.specs.declared.item.Item.{Item}
use Rattle.ll_verdict.specs.Events.{Event, Publish, Ask, Collect, Close, Clock, items, time, taken, later}
use Rattle.ll_verdict.specs.State.{State, state_of, settle, stays, new_slots, slot_by, answer_of, next, waiting_in}
use Rattle.ll_verdict.specs.Verdict.{wanted_of, is_there, reply_by, reply_with}
use Rattle.ll_verdict.specs.declared.entry.Slot.{Slot}
use Rattle.ll_verdict.specs.declared.reply.Reply.{Reply}
use Rattle.ll_verdict.specs.declared.reply.Settled.{Settled}
use Rattle.ll_verdict.specs.declared.wanted.Wanted.{Wanted}
use Rattle.ll_verdict.proofs.HintLemmas.{awaited-missing}
use Rattle.ll_verdict.proofs.ListLemmas.{Each, each-append}
use Rattle.ll_verdict.proofs.StepLemmas.{along}
use Rattle.ll_verdict.proofs.StateLemmas.{state-snoc}

-- an open request that is not due
abbrev pub Idle : Configuration → List Item → ℕ → Slot → Type 0
Idle c items time s = settle c items time s ≡ s

-- what has settled stays so
again : (o : Option Settled) (b : Bool) (v : Settled)
    → cond (is_none (cond (is_none o && b) (Some v) o) && b) (Some v) (cond (is_none o && b) (Some v) o) ≡ cond (is_none o && b) (Some v) o
again (Some x) b v = refl
again None true v = refl
again None false v = refl

settled_idle : (c : Configuration) (items : List Item) (time : ℕ) (s : Slot) → Idle c items time (settle c items time s)
settled_idle c items time s =
    ap (λ o. record s { settled = o }) (again s.settled (is_there c items s.entry.wanted || nat_le s.entry.deadline time) (reply_with c items s.entry.wanted))

each_settled : (c : Configuration) (items : List Item) (time : ℕ) (ss : List Slot) → Each (Idle c items time) (map (settle c items time) ss)
each_settled c items time [] = tt
each_settled c items time (s ∷ ss) = (settled_idle c items time s, each_settled c items time ss)

not_due : (t n : ℕ) → 1 ≤ n → nat_le (t + 3000 * n) t ≡ false
not_due t n h = grind (arith, nat_tests)

born_idle : (c : Configuration) (st : State) (n : ℕ) (o : Option Reply) (a : Option Wanted) → 1 ≤ c.target
    → reply_by c n st.items a ≡ o → Each (Idle c st.items st.time) (slot_by c o st a)
born_idle c st n (Some reply) a low h = tt
born_idle c st n None None low h = tt
born_idle c st n None (Some a) low h = (
  ap₂ (λ there due. record { entry = record { ticket = st.asks + 1; wanted = a; seen = length st.items; deadline = st.time + 3000 * c.target }; settled = cond (there || due) (Some (reply_with c st.items a)) None })
      (awaited-missing c n st.items a h) (not_due st.time c.target low),
  tt,
)

new_idle : (c : Configuration) (st : State) (e : Event) → 1 ≤ c.target → Each (Idle c (taken c st.items e) (later st.time e)) (new_slots c st e)
new_idle c st (Publish item) low = tt
new_idle c st (Ask w) low = born_idle c st (waiting_in st.slots) (answer_of c st w) (wanted_of c w) low refl
new_idle c st (Collect t) low = tt
new_idle c st (Close t) low = tt
new_idle c st (Clock ms) low = tt

abbrev pub AllIdle : Configuration → State → Type 0
AllIdle c st = Each (λ s. settle c st.items st.time s ≡ s) st.slots

next_idle : (c : Configuration) (st : State) (e : Event) → 1 ≤ c.target → AllIdle c (next c st e)
next_idle c st e low =
    each-append (Idle c (taken c st.items e) (later st.time e)) (map (settle c (taken c st.items e) (later st.time e)) (filter (stays e) st.slots)) (new_slots c st e)
    (each_settled c (taken c st.items e) (later st.time e) (filter (stays e) st.slots)) (new_idle c st e low)

-- no open request is due
pub idle : (c : Configuration) (es : List Event) → 1 ≤ c.target → Each (λ s. settle c (items c es) (time es) s ≡ s) (state_of c es).slots
idle c es low = along (λ es. AllIdle c (state_of c es)) tt (λ es e h. subst (AllIdle c) (sym (state-snoc c es e)) (next_idle c (state_of c es) e low)) es

-- settling requests that are not due changes none
pub same_slots : (c : Configuration) (items : List Item) (time : ℕ) (ss : List Slot)
    → Each (λ s. settle c items time s ≡ s) ss → map (settle c items time) ss ≡ ss
same_slots c items time [] h = refl
same_slots c items time (s ∷ ss) h = ap₂ (λ x xs. x ∷ xs) h.0 (same_slots c items time ss h.1)

kept_each : {X : Type 0} (P : X → Type 0) (x : X) (xs : List X) (b : Bool) → P x → Each P xs → Each P (cond b (x ∷ xs) xs)
kept_each P x xs true h k = (h, k)
kept_each P x xs false h k = k

pub each-filter : {X : Type 0} (P : X → Type 0) (p : X → Bool) (xs : List X) → Each P xs → Each P (filter p xs)
each-filter P p [] h = tt
each-filter P p (x ∷ xs) h = kept_each P x (filter p xs) (p x) h.0 (each-filter P p xs h.1)

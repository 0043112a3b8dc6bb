-- Each step keeps the invariant of a room.
use Rattle.std.proofs.Common.{◌≡◌, not, ◌||◌, ◌==◌, true≢false, ◌≤◌, ◌<◌, ℕ, ◌+◌, ◌^◌, List, [], ◌∷◌, Bool, true, false, cond, length, filter, map, refl, ap, ◌∙◌, sym, subst, suc, arith, ◌++◌, Option, None, Some, length-append}
use Rattle.std.specs.List.{list_any}
use Rattle.ll_verdict.specs.declared.entry.Slot.{Slot}
use Rattle.ll_book.specs.Release.{expired, is_over, over_if}
use Rattle.ll_verdict.specs.Waiting.{AreBelow, without, has_ticket, ticket_in}
use Rattle.ll_room.specs.RoomValue.{RoomValue, less}
use Rattle.ll_room.specs.Kept.{IsKept, with_answer}
use Rattle.std.proofs.lemmas.Bool.Decides.{nat_tests}
use Rattle.ll_settings.proofs.WithinLimits.{within}
use Rattle.ll_settings.specs.Settings.{Configuration, limit_broken}
use Rattle.ll_verdict.specs.declared.entry.Entry.{Entry}
use Rattle.ll_item.specs.declared.item.Item.{Item}
use Rattle.ll_presentation.specs.PresentationValue.{PresentationValue, presentation_of}
use Rattle.ll_rendition.specs.Refusal.{first_refusal}
use Rattle.ll_rendition.specs.declared.fault.PublishFault.{PublishFault}
use Rattle.ll_room.specs.Full.{refusal_by}
use Rattle.ll_verdict.specs.Full.{event_end, full_by, is_full}

-- ---- when requests come

pub below-more : (a b : ℕ) (ss : List Slot) → a ≤ b → AreBelow a ss → AreBelow b ss
below-more a b [] h r = tt
below-more a b (s ∷ ss) h r = (omega (arith, h, r.0), below-more a b ss h r.1)

below-new : (a : ℕ) (s : Slot) (ss : List Slot) → s.entry.ticket < a → AreBelow a ss → AreBelow a (ss ++ s ∷ [])
below-new a s [] h r = (h, tt)
below-new a s (t ∷ ss) h r = (r.0, below-new a s ss h r.1)

-- a request that is answered at once
pub kept-answer : (h : RoomValue) → h.events < event_end → IsKept h → IsKept (with_answer h)
kept-answer h few k = record {
  target = k.target;
  window = k.window;
  accepted = omega (arith, k.accepted);
  asked = omega (arith, k.asked);
  early = k.early;
  below = below-more (h.asks + 1) (h.asks + 1 + 1) h.slots (omega arith) k.below;
  few = omega (arith, k.few);
  counted = omega (arith, few, k.few, k.asked);
}

-- a request that is held
pub kept-held : (h : RoomValue) (e : Entry) (ss : List Slot) → h.events < event_end → e.ticket ≡ h.asks + 1
    → ss ≡ h.slots ++ (record { entry = e; settled = None }) ∷ [] → IsKept h
    → IsKept (record h { asks = h.asks + 1; slots = ss; events = h.events + 1 })
kept-held h e ss few t is k =
    let many : length ss ≡ length h.slots + 1 = ap length is ∙ length-append h.slots ((record { entry = e; settled = None }) ∷ []) in record {
      target = k.target;
      window = k.window;
      accepted = omega (arith, k.accepted);
      asked = omega (arith, k.asked);
      early = k.early;
      below =
          subst (AreBelow (h.asks + 1 + 1)) (sym is)
          (below-new (h.asks + 1 + 1) (record { entry = e; settled = None }) h.slots (omega (arith, t)) (below-more (h.asks + 1) (h.asks + 1 + 1) h.slots (omega arith) k.below));
      few = omega (arith, k.few, many);
      counted = omega (arith, few, k.few, k.asked, many);
    }

some_window : (c : Configuration) → limit_broken c ≡ None → 1 ≤ c.window
some_window c h = let limits = within c h in omega (arith, limits.target_low, limits.window_low)

-- nothing has happened
pub kept-new : (channel : ℕ) (c : Configuration) (p : PresentationValue) (ss : List Slot) → p ≡ presentation_of c [] → 1 ≤ c.target → limit_broken c ≡ None → ss ≡ []
    → IsKept (record { channel = channel; settings = p.settings; renditions = p.renditions; stores = p.stores; count = p.count; time = 0; asks = 0; slots = ss; events = 0 })
kept-new channel c p ss is low within_limits none =
    subst (λ (q : PresentationValue). IsKept (record { channel = channel; settings = q.settings; renditions = q.renditions; stores = q.stores; count = q.count; time = 0; asks = 0; slots = ss; events = 0 }))
    (sym is)
    (record {
      target = low;
      window = some_window c within_limits;
      accepted = omega arith;
      asked = omega arith;
      early = omega arith;
      below = subst (AreBelow 1) (sym none) tt;
      few = omega (arith, ap length none);
      counted = omega (arith, ap length none);
    })

-- the newest ticket is above all others
left_by : (t : ℕ) (s : Slot) (ss : List Slot) → s.entry.ticket < t → filter (λ n. not (n == t)) (map ticket_in ss ++ t ∷ []) ≡ map ticket_in ss
    → filter (λ n. not (n == t)) (s.entry.ticket ∷ map ticket_in ss ++ t ∷ []) ≡ s.entry.ticket ∷ map ticket_in ss
left_by t s ss h ih =
    let other : not (s.entry.ticket == t) ≡ true = grind (arith, nat_tests) in
    ap (λ b. cond b (s.entry.ticket ∷ filter (λ n. not (n == t)) (map ticket_in ss ++ t ∷ [])) (filter (λ n. not (n == t)) (map ticket_in ss ++ t ∷ []))) other
    ∙ ap (λ ts. s.entry.ticket ∷ ts) ih

pub newest : (t : ℕ) (ss : List Slot) → AreBelow t ss → less t (map ticket_in ss ++ t ∷ []) ≡ map ticket_in ss
newest t [] r =
    let it : not (t == t) ≡ false = grind (arith, nat_tests) in ap (λ b. cond b (t ∷ []) []) it
newest t (s ∷ ss) r = left_by t s ss r.0 (newest t ss r.1)

second_none : (f g : Option PublishFault) → first_refusal f g ≡ None → g ≡ None
second_none None g e = e
second_none (Some f) g e = absurd (cc)

few_by : (b : Bool) (n : ℕ) → is_full n ≡ b → full_by b ≡ None → n < event_end
few_by true n e h = absurd (cc)
few_by false n e h = grind (arith, nat_tests)

-- a channel that accepts an item has taken fewer events than it takes
pub free-few : (h : RoomValue) (i : Item) → refusal_by h i ≡ None → h.events < event_end
free-few h i free = few_by (is_full h.events) h.events refl (second_none _ _ free)

pub few-events : (h k : RoomValue) → h ≡ k → k.events < event_end → h.events < event_end
few-events h k e few = subst (λ (x : RoomValue). x.events < event_end) (sym e) few

-- ---- after held requests were collected, closed or timed out

kept_below : (n : ℕ) (s : Slot) (ss : List Slot) (b : Bool) → s.entry.ticket < n → AreBelow n ss → AreBelow n (cond b (s ∷ ss) ss)
kept_below n s ss true h k = (h, k)
kept_below n s ss false h k = k

pub below-filter : (p : Slot → Bool) (n : ℕ) (ss : List Slot) → AreBelow n ss → AreBelow n (filter p ss)
below-filter p n [] h = tt
below-filter p n (s ∷ ss) h = kept_below n s (filter p ss) (p s) h.0 (below-filter p n ss h.1)

kept_short : (s : Slot) (xs ys : List Slot) (b : Bool) → length xs ≤ length ys → length (cond b (s ∷ xs) xs) ≤ length (s ∷ ys)
kept_short s xs ys true h = omega (arith, h)
kept_short s xs ys false h = omega (arith, h)

pub short-filter : (p : Slot → Bool) (ss : List Slot) → length (filter p ss) ≤ length ss
short-filter p [] = omega arith
short-filter p (s ∷ ss) = kept_short s (filter p ss) ss (p s) (short-filter p ss)

over_ticket : (b : Bool) (s : Slot) → (over_if b s).entry.ticket ≡ s.entry.ticket
over_ticket true s = refl
over_ticket false s = refl

below_expired : (time n : ℕ) (ss : List Slot) → AreBelow n ss → AreBelow n (map (expired time) ss)
below_expired time n [] h = tt
below_expired time n (s ∷ ss) h = (subst (λ k. k < n) (sym (over_ticket (is_over time s) s)) h.0, below_expired time n ss h.1)

long_expired : (time : ℕ) (ss : List Slot) → length (map (expired time) ss) ≡ length ss
long_expired time [] = refl
long_expired time (s ∷ ss) = ap suc (long_expired time ss)

clock_counted : (events slots : ℕ) → events < 2 ^ 60 → slots ≤ events → events + 1 + slots ≤ 2 ^ 61
clock_counted events slots h k = omega (arith, h, k)

-- the clock
pub clock-kept : (h : RoomValue) (time : ℕ) (slots : List Slot) → IsKept h
    → h.events < 2 ^ 60 → time ≤ 2 ^ 60 → slots ≡ map (expired time) h.slots
    → IsKept (record h { time = time; slots = slots; events = h.events + 1 })
clock-kept h time slots k room early e =
    let long : length slots ≡ length h.slots = ap length e ∙ long_expired time h.slots in
    record {
      target = k.target;
      window = k.window;
      accepted = omega (arith, k.accepted);
      asked = omega (arith, k.asked);
      early = early;
      below = subst (AreBelow (h.asks + 1)) (sym e) (below_expired time (h.asks + 1) h.slots k.below);
      few = omega (arith, long, k.few);
      counted = clock_counted h.events (length slots) room (omega (arith, long, k.few, k.asked));
    }

-- a request that leaves

lost_by : (s : Slot) (xs ss : List Slot) (a any : Bool) → length xs ≤ length ss → (any ≡ true → length xs < length ss)
    → (a || any) ≡ true → length (cond (not a) (s ∷ xs) xs) < length (s ∷ ss)
lost_by s xs ss true any le f h = omega (arith, le)
lost_by s xs ss false any le f h = omega (arith, f h)

lost : (t : ℕ) (ss : List Slot) → list_any (has_ticket t) ss ≡ true → length (without t ss) < length ss
lost t [] h = absurd (true≢false (sym h))
lost t (s ∷ ss) h = lost_by s (without t ss) ss (s.entry.ticket == t) (list_any (has_ticket t) ss) (short-filter (λ s. not (has_ticket t s)) ss) (lost t ss) h

abbrev with_left : RoomValue → List Slot → RoomValue
with_left h slots = record h { slots = slots; events = h.events + 1 }

pub leave-kept : (h : RoomValue) (t : ℕ) (slots : List Slot) → IsKept h
    → slots ≡ without t h.slots → list_any (has_ticket t) h.slots ≡ true → IsKept (with_left h slots)
leave-kept h t slots k e there =
    let fewer : length slots < length h.slots = subst (λ ss. length ss < length h.slots) (sym e) (lost t h.slots there) in
    record {
      target = k.target;
      window = k.window;
      accepted = omega (arith, k.accepted);
      asked = omega (arith, k.asked);
      early = k.early;
      below = subst (AreBelow (h.asks + 1)) (sym e) (below-filter (λ s. not (has_ticket t s)) (h.asks + 1) h.slots k.below);
      few = omega (arith, fewer, k.few);
      counted = omega (arith, fewer, k.counted);
    }

-- if none leaves
pub same-kept : (h : RoomValue) (slots : List Slot) → IsKept h → slots ≡ h.slots → IsKept (record h { slots = slots })
same-kept h slots k e = subst (λ ss. IsKept (record h { slots = ss })) (sym e) k

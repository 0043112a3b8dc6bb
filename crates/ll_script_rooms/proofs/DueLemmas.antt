-- The reply that is due first, in a room and in its events.
use Rattle.std.proofs.Common.{◌≡◌, ℕ, ◌==◌, ◌&&◌, ◌||◌, List, [], ◌∷◌, Bool, true, false, not, cond, Option, Some, None, is_some, option_and_then, option_map, refl, ap, ap₂, ◌∙◌, sym, find, filter, map}
use Rattle.std.specs.List.{list_any}
use Rattle.ll_verdict.specs.Waiting.{first_ready, has_ticket, is_ready, reply_at, settled_in, ticket_in}
use Rattle.ll_settings.specs.Settings.{Configuration}
use Rattle.ll_verdict.specs.Events.{Event}
use Rattle.ll_verdict.specs.State.{gone, slot_of, state_of}
use Rattle.ll_verdict.specs.Verdict.{Pending, held, reply}
use Rattle.ll_verdict.specs.declared.entry.Slot.{Slot}
use Rattle.ll_script_rooms.specs.World.{first_due}
use Rattle.ll_script_rooms.proofs.TieLemmas.{none_some, same_test, some_is}

find_by : {X Y : Type 0} (f : X → Y) (q : Y → Bool) (x : X) (a b : Bool) (o : Option X) (ys : List Y) → q (f x) ≡ b → find q ys ≡ option_map f o
    → find q (cond a (f x ∷ ys) ys) ≡ option_map f (cond (a && b) (Some x) o)
find_by f q x true true o ys e ih = ap (λ b. cond b (Some (f x)) (find q ys)) e
find_by f q x true false o ys e ih = ap (λ b. cond b (Some (f x)) (find q ys)) e ∙ ih
find_by f q x false b o ys e ih = ih

pushed_by : {X Y : Type 0} (f : X → Y) (x : X) (a : Bool) (xs : List X) → map f (cond a (x ∷ xs) xs) ≡ cond a (f x ∷ map f xs) (map f xs)
pushed_by f x true xs = refl
pushed_by f x false xs = refl

find_round : {X Y : Type 0} (p : X → Bool) (f : X → Y) (q : Y → Bool) (xs : List X) → find q (map f (filter p xs)) ≡ option_map f (find (λ x. p x && q (f x)) xs)
find_round p f q [] = refl
find_round p f q (x ∷ xs) =
    ap (find q) (pushed_by f x (p x) (filter p xs)) ∙ find_by f q x (p x) (q (f x)) (find (λ x. p x && q (f x)) xs) (map f (filter p xs)) refl (find_round p f q xs)

narrow_by : {X : Type 0} (p q : X → Bool) (x y : X) (b : Bool) (o o2 : Option X) → p x ≡ b → cond b (Some x) o ≡ Some y → q y ≡ true → (o ≡ Some y → o2 ≡ Some y)
    → cond (q x && p x) (Some x) o2 ≡ Some y
narrow_by p q x y true o o2 e h r ih = ap₂ (λ a b. cond (a && b) (Some x) o2) (ap q (some_is x y h) ∙ r) e ∙ h
narrow_by p q x y false o o2 e h r ih = ap (λ b. cond (q x && b) (Some x) o2) e ∙ never (q x) ∙ ih h
  where
    never : (a : Bool) → cond (a && false) (Some x) o2 ≡ o2
    never true = refl
    never false = refl

find_narrow : {X : Type 0} (p q : X → Bool) (y : X) (xs : List X) → find p xs ≡ Some y → q y ≡ true → find (λ x. q x && p x) xs ≡ Some y
find_narrow p q y [] h r = h
find_narrow p q y (x ∷ xs) h r = narrow_by p q x y (p x) (find p xs) (find (λ x. q x && p x) xs) refl h r (λ k. find_narrow p q y xs k r)

ready_is : (c : Configuration) (es : List Event) → find is_ready (state_of c es).slots ≡ option_map (slot_of c es) (first_due c es)
ready_is c es = find_round (λ r. not (gone c es r)) (slot_of c es) is_ready (held c es)

-- the first ready ticket of a room is that of the request whose reply is due first
pub first_is : (c : Configuration) (es : List Event) → first_ready (state_of c es).slots ≡ option_map ticket_in (option_map (slot_of c es) (first_due c es))
first_is c es = ap (option_map ticket_in) (ready_is c es)

-- the reply of the first request that is due
pub reply_is : (c : Configuration) (es : List Event) (r : Pending) → first_due c es ≡ Some r → reply_at r.ticket (state_of c es).slots ≡ reply c es r
reply_is c es r h =
    ap (option_and_then settled_in)
    (find_narrow is_ready (has_ticket r.ticket) (slot_of c es r) (state_of c es).slots
    (ready_is c es ∙ ap (option_map (slot_of c es)) h) (same_test r.ticket))

-- a ticket that is ready is open, and its reply is there

find_ready : (t : ℕ) (o : Option Slot) → option_map ticket_in o ≡ Some t → (P : Type 0) → ((s : Slot) → o ≡ Some s → s.entry.ticket ≡ t → P) → P
find_ready t None h P f = absurd (none_some t h)
find_ready t (Some s) h P f = f s refl (some_is s.entry.ticket t h)

passes_by : {X : Type 0} (p : X → Bool) (x y : X) (b : Bool) (o : Option X) → p x ≡ b → cond b (Some x) o ≡ Some y → (o ≡ Some y → p y ≡ true) → p y ≡ true
passes_by p x y true o e h ih = ap p (sym (some_is x y h)) ∙ e
passes_by p x y false o e h ih = ih h

pub find_passes : {X : Type 0} (p : X → Bool) (y : X) (xs : List X) → find p xs ≡ Some y → p y ≡ true
find_passes p y [] h = absurd (none_some y h)
find_passes p y (x ∷ xs) h = passes_by p x y (p x) (find p xs) refl h (find_passes p y xs)

any_by : {X : Type 0} (q : X → Bool) (x y : X) (a : Bool) (o : Option X) (b : Bool) → cond a (Some x) o ≡ Some y → q y ≡ true → (o ≡ Some y → b ≡ true) → (q x || b) ≡ true
any_by q x y true o b h r ih = ap (λ a. a || b) (ap q (some_is x y h) ∙ r)
any_by q x y false o b h r ih = second (q x) b (ih h)
  where
    second : (a b : Bool) → b ≡ true → (a || b) ≡ true
    second true b h = refl
    second false b h = h

find_any : {X : Type 0} (p q : X → Bool) (y : X) (xs : List X) → find p xs ≡ Some y → q y ≡ true → list_any q xs ≡ true
find_any p q y [] h r = absurd (none_some y h)
find_any p q y (x ∷ xs) h r = any_by q x y (p x) (find p xs) (list_any q xs) h r (λ k. find_any p q y xs k r)

pub ready_open : (t : ℕ) (slots : List Slot) → first_ready slots ≡ Some t → list_any (has_ticket t) slots ≡ true
ready_open t slots h =
    find_ready t (find is_ready slots) h (list_any (has_ticket t) slots ≡ true)
    (λ s e k. find_any is_ready (has_ticket t) s slots e (ap (λ n. n == t) k ∙ same_test t))

pub ready_reply : (t : ℕ) (slots : List Slot) → first_ready slots ≡ Some t → is_some (reply_at t slots) ≡ true
ready_reply t slots h =
    find_ready t (find is_ready slots) h (is_some (reply_at t slots) ≡ true)
    (λ s e k. ap (λ o. is_some (option_and_then settled_in o)) (find_narrow is_ready (has_ticket t) s slots e (ap (λ n. n == t) k ∙ same_test t))
    ∙ find_passes is_ready s slots e)

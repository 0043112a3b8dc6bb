-- The number of requests of a connection that wait, and that the one found by its owner is the one under its ticket.
use Rattle.std.proofs.Common.{◌≡◌, ℕ, ◌+◌, ◌==◌, ◌&&◌, ◌||◌, List, [], ◌∷◌, ◌++◌, Bool, true, false, cond, Option, Some, None, length, length-append, filter, map, if◌then◌else◌, refl, ap, ap₂, ◌∙◌, sym, true≢false, arith}
use Rattle.std.proofs.lemmas.List.Elements.{filter-append}
use Rattle.ll_script_rooms.specs.Waits.{is_of, is_under, under, wait_of, without}
use Rattle.ll_script_rooms.specs.declared.owner.Owner.{Owner}
use Rattle.ll_script_rooms.specs.declared.owner.Owner.TheVariants.{Connection}
use Rattle.ll_script_rooms.specs.declared.wait.Wait.{Wait}
use Rattle.ll_room.specs.RoomValue.{AreDistinct, among}
use Rattle.ll_script_rooms.specs.Kept.{is_in, ticket_of, tickets_at}
use Rattle.ll_script_rooms.proofs.TieLemmas.{equal, none_some, same_test, some_is}
use Rattle.ll_connection.specs.Met.{waiting_of}

-- ---- how many wait

one : {X : Type 0} (x : X) (b : Bool) → length (cond b (x ∷ []) []) ≡ (if b then 1 else 0)
one x true = refl
one x false = refl

pub count-more : (n : ℕ) (xs : List Wait) (x : Wait) → waiting_of n (xs ++ x ∷ []) ≡ waiting_of n xs + (if is_of (Connection n) x then 1 else 0)
count-more n xs x =
    ap length (filter-append (is_of (Connection n)) xs (x ∷ []))
    ∙ length-append (filter (is_of (Connection n)) xs) (filter (is_of (Connection n)) (x ∷ []))
    ∙ ap (λ k. waiting_of n xs + k) (one x (is_of (Connection n) x))

one_more : (x : Wait) (b : Bool) (xs : List Wait) → length (cond b (x ∷ xs) xs) ≡ length xs + (if b then 1 else 0)
one_more x true xs = omega arith
one_more x false xs = omega arith

count-cons : (n : ℕ) (x : Wait) (xs : List Wait) → waiting_of n (x ∷ xs) ≡ waiting_of n xs + (if is_of (Connection n) x then 1 else 0)
count-cons n x xs = one_more x (is_of (Connection n) x) (filter (is_of (Connection n)) xs)

less_by : (n : ℕ) (x y : Wait) (b : Bool) (o : Option Wait) (xs ys : List Wait) → cond b (Some y) o ≡ Some x
    → (o ≡ Some x → waiting_of n ys + (if is_of (Connection n) x then 1 else 0) ≡ waiting_of n xs)
    → waiting_of n (cond b xs (y ∷ ys)) + (if is_of (Connection n) x then 1 else 0) ≡ waiting_of n (y ∷ xs)
less_by n x y true o xs ys h ih = ap (λ z. waiting_of n xs + (if is_of (Connection n) z then 1 else 0)) (sym (some_is y x h)) ∙ sym (count-cons n y xs)
less_by n x y false o xs ys h ih = omega (arith, count-cons n y ys, count-cons n y xs, ih h)

-- the one that leaves is counted no longer
pub count-less : (n place t : ℕ) (xs : List Wait) (x : Wait) → under place t xs ≡ Some x
    → waiting_of n (without place t xs) + (if is_of (Connection n) x then 1 else 0) ≡ waiting_of n xs
count-less n place t [] x h = absurd (none_some x h)
count-less n place t (y ∷ xs) x h = less_by n x y (is_under place t y) (under place t xs) xs (without place t xs) h (count-less n place t xs x)

none_by : (x : Wait) (b : Bool) (o : Option Wait) (xs : List Wait) → cond b (Some x) o ≡ None → (o ≡ None → length xs ≡ 0) → length (cond b (x ∷ xs) xs) ≡ 0
none_by x true o xs h ih = absurd (none_some x (sym h))
none_by x false o xs h ih = ih h

pub none_waits : (n : ℕ) (xs : List Wait) → wait_of (Connection n) xs ≡ None → waiting_of n xs ≡ 0
none_waits n [] h = refl
none_waits n (x ∷ xs) h = none_by x (is_of (Connection n) x) (wait_of (Connection n) xs) (filter (is_of (Connection n)) xs) h (none_waits n xs)

-- ---- who is found is the one under its ticket

passes_by : (o : Owner) (x y : Wait) (b : Bool) (r : Option Wait) → is_of o y ≡ b → cond b (Some y) r ≡ Some x → (r ≡ Some x → is_of o x ≡ true) → is_of o x ≡ true
passes_by o x y true r e h ih = ap (is_of o) (sym (some_is y x h)) ∙ e
passes_by o x y false r e h ih = ih h

pub is_its_own : (o : Owner) (x : Wait) (xs : List Wait) → wait_of o xs ≡ Some x → is_of o x ≡ true
is_its_own o x [] h = absurd (none_some x h)
is_its_own o x (y ∷ xs) h = passes_by o x y (is_of o y) (wait_of o xs) refl h (is_its_own o x xs)

there_by : (o : Owner) (x y : Wait) (b c : Bool) (r : Option Wait) (ts : List ℕ) → cond b (Some y) r ≡ Some x → (x.place == x.place) ≡ true → (y.place == x.place) ≡ c
    → (r ≡ Some x → among x.ticket ts ≡ true) → among x.ticket (map ticket_of (cond c (y ∷ []) []) ++ ts) ≡ true
there_by o x y true true r ts h s e ih =
    let it : (y.ticket == x.ticket) ≡ true = ap (λ (z : Wait). y.ticket == z.ticket) (sym (some_is y x h)) ∙ same_test y.ticket in
    ap (λ b. b || among x.ticket ts) it
there_by o x y true false r ts h s e ih =
    let never : true ≡ false = sym s ∙ ap (λ (z : Wait). z.place == x.place) (sym (some_is y x h)) ∙ e in
    absurd (true≢false never)
there_by o x y false true r ts h s e ih = or_right (y.ticket == x.ticket) (among x.ticket ts) (ih h)
  where
    or_right : (a b : Bool) → b ≡ true → (a || b) ≡ true
    or_right true b h = refl
    or_right false b h = h
there_by o x y false false r ts h s e ih = ih h

pushed : (x y : Wait) (c : Bool) (xs : List Wait) → map ticket_of (cond c (y ∷ xs) xs) ≡ map ticket_of (cond c (y ∷ []) []) ++ map ticket_of xs
pushed x y true xs = refl
pushed x y false xs = refl

-- its ticket is among those at its place
is_there : (o : Owner) (x : Wait) (xs : List Wait) → wait_of o xs ≡ Some x → among x.ticket (tickets_at x.place xs) ≡ true
is_there o x [] h = absurd (none_some x h)
is_there o x (y ∷ xs) h =
    ap (among x.ticket) (pushed x y (y.place == x.place) (filter (is_in x.place) xs))
    ∙ there_by o x y (is_of o y) (y.place == x.place) (wait_of o xs) (tickets_at x.place xs) h (same_test x.place) refl (is_there o x xs)

own_by : (o : Owner) (x y : Wait) (a b c : Bool) (r : Option Wait) (xs : List Wait) → cond a (Some y) r ≡ Some x → (y.place == x.place) ≡ b → (y.ticket == x.ticket) ≡ c
    → AreDistinct (map ticket_of (cond b (y ∷ filter (is_in x.place) xs) (filter (is_in x.place) xs)))
    → (r ≡ Some x → among x.ticket (tickets_at x.place xs) ≡ true)
    → (r ≡ Some x → AreDistinct (tickets_at x.place xs) → under x.place x.ticket xs ≡ Some x)
    → cond (b && c) (Some y) (under x.place x.ticket xs) ≡ Some x
own_by o x y true b c r xs h e f d there ih =
    ap₂ (λ p q. cond (p && q) (Some y) (under x.place x.ticket xs))
    (sym e ∙ ap (λ (z : Wait). y.place == z.place) (sym (some_is y x h)) ∙ same_test y.place)
    (sym f ∙ ap (λ (z : Wait). y.ticket == z.ticket) (sym (some_is y x h)) ∙ same_test y.ticket)
    ∙ h
own_by o x y false true true r xs h e f d there ih =
    absurd (true≢false (sym (ap (λ t. among t (tickets_at x.place xs)) (equal y.ticket x.ticket f) ∙ there h) ∙ d.0))
own_by o x y false true false r xs h e f d there ih = ih h d.1
own_by o x y false false c r xs h e f d there ih = ih h d

pub own_ticket : (o : Owner) (x : Wait) (xs : List Wait) → wait_of o xs ≡ Some x → AreDistinct (tickets_at x.place xs) → under x.place x.ticket xs ≡ Some x
own_ticket o x [] h d = absurd (none_some x h)
own_ticket o x (y ∷ xs) h d =
    own_by o x y (is_of o y) (y.place == x.place) (y.ticket == x.ticket) (wait_of o xs) xs h refl refl d (is_there o x xs) (own_ticket o x xs)

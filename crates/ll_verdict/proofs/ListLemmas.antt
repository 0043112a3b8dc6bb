-- Lists of which each element has a property, and lists that are filtered and changed in rounds.
use Rattle.std.proofs.Common.{◌≡◌, ℕ, zero, suc, List, [], ◌∷◌, ◌++◌, Bool, true, false, ◌&&◌, Some, cond, map, filter, refl, ap, ◌∙◌, sym, subst, length, slice_get}

abbrev pub Each : {X : Type 0} → (X → Type 0) → List X → Type 0
Each P [] = Unit {0}
Each P (x ∷ xs) = P x × Each P xs

pub each-append : {X : Type 0} (P : X → Type 0) (xs ys : List X) → Each P xs → Each P ys → Each P (xs ++ ys)
each-append P [] ys h k = k
each-append P (x ∷ xs) ys h k = (h.0, each-append P xs ys h.1 k)

pub each-map : {X : Type 0} (P Q : X → Type 0) → ((x : X) → P x → Q x) → (xs : List X) → Each P xs → Each Q xs
each-map P Q f [] h = tt
each-map P Q f (x ∷ xs) h = (f x h.0, each-map P Q f xs h.1)

-- what each element has, the one at a place has
pub each-at : {X : Type 0} (P : X → Type 0) (xs : List X) (place : ℕ) (x : X) → Each P xs → slice_get xs place ≡ Some x → P x
each-at P [] place x h e = cc
each-at P (y ∷ xs) zero x h e =
    let is : y ≡ x = cc in
    subst P is h.0
each-at P (y ∷ xs) (suc place) x h e = each-at P xs place x h.1 e

-- one round of filters and changes after another
pub record Agree {X Y : Type 0} (p p2 : X → Bool) (f f2 : X → Y) (q : Y → Bool) (g : Y → Y) (x : X) : Type 0 where
  pub kept : p2 x ≡ (p x && q (f x))
  pub same : p2 x ≡ true → f2 x ≡ g (f x)

round_by : {X Y : Type 0} (f f2 : X → Y) (q : Y → Bool) (g : Y → Y) (x : X) (a b c : Bool) (xs2 : List X) (ys : List Y)
    → c ≡ (a && b) → q (f x) ≡ b → (c ≡ true → f2 x ≡ g (f x)) → map f2 xs2 ≡ map g (filter q ys)
    → map f2 (cond c (x ∷ xs2) xs2) ≡ map g (filter q (cond a (f x ∷ ys) ys))
round_by f f2 q g x true true c xs2 ys e d same ih = rw (e, d) (rw (same e, ih) refl)
round_by f f2 q g x true false c xs2 ys e d same ih = rw (e, d) ih
round_by f f2 q g x false b c xs2 ys e d same ih = rw e ih

pushed_by : {X Y : Type 0} (f : X → Y) (x : X) (a : Bool) (xs : List X) → map f (cond a (x ∷ xs) xs) ≡ cond a (f x ∷ map f xs) (map f xs)
pushed_by f x true xs = refl
pushed_by f x false xs = refl

pub round : {X Y : Type 0} (p p2 : X → Bool) (f f2 : X → Y) (q : Y → Bool) (g : Y → Y) (xs : List X)
    → Each (Agree p p2 f f2 q g) xs → map f2 (filter p2 xs) ≡ map g (filter q (map f (filter p xs)))
round p p2 f f2 q g [] h = refl
round p p2 f f2 q g (x ∷ xs) h =
    round_by f f2 q g x (p x) (q (f x)) (p2 x) (filter p2 xs) (map f (filter p xs)) h.0.kept refl h.0.same (round p p2 f f2 q g xs h.1)
    ∙ ap (λ ys. map g (filter q ys)) (sym (pushed_by f x (p x) (filter p xs)))

counted_by : {X Y : Type 0} (f : X → Y) (q : Y → Bool) (x : X) (a b c : Bool) (xs2 : List X) (ys : List Y)
    → q (f x) ≡ b → c ≡ (a && b) → length xs2 ≡ length (filter q ys)
    → length (cond c (x ∷ xs2) xs2) ≡ length (filter q (cond a (f x ∷ ys) ys))
counted_by f q x true true c xs2 ys d e ih = rw (d, e) (ap suc ih)
counted_by f q x true false c xs2 ys d e ih = rw (d, e) ih
counted_by f q x false b c xs2 ys d e ih = rw e ih

pub counted_round : {X Y : Type 0} (p p2 : X → Bool) (f : X → Y) (q : Y → Bool) (xs : List X)
    → Each (λ x. p2 x ≡ (p x && q (f x))) xs → length (filter p2 xs) ≡ length (filter q (map f (filter p xs)))
counted_round p p2 f q [] e = refl
counted_round p p2 f q (x ∷ xs) e =
    counted_by f q x (p x) (q (f x)) (p2 x) (filter p2 xs) (map f (filter p xs)) refl e.0 (counted_round p p2 f q xs e.1)
    ∙ ap (λ ys. length (filter q ys)) (sym (pushed_by f x (p x) (filter p xs)))

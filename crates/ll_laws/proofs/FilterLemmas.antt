-- What tests leave of a list, and what holds of each that is left.
use Rattle.std.proofs.Common.{◌≡◌, List, [], ◌∷◌, Bool, true, false, ◌&&◌, cond, filter, refl, ap, sym, ◌∙◌}
use Rattle.std.proofs.lemmas.Bool.{true≢false, or_from, or_parts}
use Rattle.std.specs.List.{list_any}
use Rattle.ll_read.specs.Readable.{Each}

same_by : {A : Type 0} (b : Bool) (x : A) (xs ys : List A) → xs ≡ ys → cond b (x ∷ xs) xs ≡ cond b (x ∷ ys) ys
same_by b x xs ys e = ap (λ zs. cond b (x ∷ zs) zs) e

-- two tests that answer the same
pub filter-same : {A : Type 0} (p q : A → Bool) (xs : List A) → Each (λ x. p x ≡ q x) xs → filter p xs ≡ filter q xs
filter-same p q [] h = refl
filter-same p q (x ∷ xs) h =
    ap (λ b. cond b (x ∷ filter p xs) (filter p xs)) h.0 ∙ same_by (q x) x (filter p xs) (filter q xs) (filter-same p q xs h.1)

pub filter-all : {A : Type 0} (p : A → Bool) (xs : List A) → Each (λ x. p x ≡ true) xs → filter p xs ≡ xs
filter-all p [] h = refl
filter-all p (x ∷ xs) h = ap (λ b. cond b (x ∷ filter p xs) (filter p xs)) h.0 ∙ ap (λ ys. x ∷ ys) (filter-all p xs h.1)

pub filter-none : {A : Type 0} (p : A → Bool) (xs : List A) → Each (λ x. p x ≡ false) xs → filter p xs ≡ []
filter-none p [] h = refl
filter-none p (x ∷ xs) h = ap (λ b. cond b (x ∷ filter p xs) (filter p xs)) h.0 ∙ filter-none p xs h.1

twice_by : {A : Type 0} (p : A → Bool) (b : Bool) (x : A) (xs : List A) → p x ≡ b → filter p xs ≡ xs → filter p (cond b (x ∷ xs) xs) ≡ cond b (x ∷ xs) xs
twice_by p true x xs e h = ap (λ t. cond t (x ∷ filter p xs) (filter p xs)) e ∙ ap (λ ys. x ∷ ys) h
twice_by p false x xs e h = h

-- one test again
pub filter-twice : {A : Type 0} (p : A → Bool) (xs : List A) → filter p (filter p xs) ≡ filter p xs
filter-twice p [] = refl
filter-twice p (x ∷ xs) = twice_by p (p x) x (filter p xs) refl (filter-twice p xs)

both_by : {A : Type 0} (p q : A → Bool) (b : Bool) (x : A) (xs ys : List A) → filter q xs ≡ ys
    → filter q (cond b (x ∷ xs) xs) ≡ cond (b && q x) (x ∷ ys) ys
both_by p q true x xs ys h = same_by (q x) x (filter q xs) ys h
both_by p q false x xs ys h = h

-- one test after the other
pub filter-both : {A : Type 0} (p q : A → Bool) (xs : List A) → filter q (filter p xs) ≡ filter (λ x. p x && q x) xs
filter-both p q [] = refl
filter-both p q (x ∷ xs) = both_by p q (p x) x (filter p xs) (filter (λ x. p x && q x) xs) (filter-both p q xs)

passes_by : {A : Type 0} (P : A → Type 0) (p : A → Bool) (b : Bool) (x : A) (xs : List A) → p x ≡ b → P x → Each (λ y. P y × (p y ≡ true)) xs
    → Each (λ y. P y × (p y ≡ true)) (cond b (x ∷ xs) xs)
passes_by P p true x xs e h k = ((h, e), k)
passes_by P p false x xs e h k = k

-- each that is left passes the test
pub each-passes : {A : Type 0} (P : A → Type 0) (p : A → Bool) (xs : List A) → Each P xs → Each (λ y. P y × (p y ≡ true)) (filter p xs)
each-passes P p [] h = tt
each-passes P p (x ∷ xs) h = passes_by P p (p x) x (filter p xs) refl h.0 (each-passes P p xs h.1)

passing_by : {A : Type 0} (P : A → Type 0) (p : A → Bool) (b : Bool) (x : A) (xs : List A) → p x ≡ b → Each P (cond b (x ∷ xs) xs)
    → (p x ≡ true → P x) × Each P xs
passing_by P p true x xs e h = (λ t. h.0, h.1)
passing_by P p false x xs e h = (λ t. absurd (true≢false (sym t ∙ e)), h)

-- what holds of each that is left holds of each that passes the test
pub each-passing : {A : Type 0} (P : A → Type 0) (p : A → Bool) (xs : List A) → Each P (filter p xs) → Each (λ x. p x ≡ true → P x) xs
each-passing P p [] h = tt
each-passing P p (x ∷ xs) h = let k = passing_by P p (p x) x (filter p xs) refl h in (k.0, each-passing P p xs k.1)

none_by : {A : Type 0} (p : A → Bool) (b : Bool) (x : A) (xs : List A) → p x ≡ false → list_any p xs ≡ false → list_any p (cond b (x ∷ xs) xs) ≡ false
none_by p true x xs e h = or_from (p x) (list_any p xs) e h
none_by p false x xs e h = h

-- a test that none passes
pub none-left : {A : Type 0} (p q : A → Bool) (xs : List A) → list_any p xs ≡ false → list_any p (filter q xs) ≡ false
none-left p q [] h = refl
none-left p q (x ∷ xs) h =
    let n = or_parts (p x) (list_any p xs) h in none_by p (q x) x (filter q xs) n.0 (none-left p q xs n.1)

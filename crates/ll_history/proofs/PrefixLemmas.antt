-- Beginnings of one list.
use Rattle.std.proofs.Common.{◌≡◌, ℕ, zero, suc, ◌≤◌, List, [], ◌∷◌, ◌++◌, length, take, Some, slice_get, refl, ap, sym, ◌∙◌, arith, append_assoc, length-append, append-nil}
use mathlib.Core.List.{IsPrefix}

-- each list begins with itself
pub prefix-self : {A : Type 0} (xs : List A) → IsPrefix xs xs
prefix-self xs = ([], append-nil xs)

pub prefix-more : {A : Type 0} (xs ys : List A) → IsPrefix xs (xs ++ ys)
prefix-more xs ys = (ys, refl)

pub prefix-trans : {A : Type 0} (xs ys zs : List A) → IsPrefix xs ys → IsPrefix ys zs → IsPrefix xs zs
prefix-trans xs ys zs p q = (p.0 ++ q.0, sym (append_assoc xs p.0 q.0) ∙ (ap (λ w. w ++ q.0) p.1 ∙ q.1))

-- a beginning as long as the whole is the whole
pub prefix-whole : {A : Type 0} (xs ys : List A) → IsPrefix xs ys → length ys ≤ length xs → xs ≡ ys
prefix-whole [] [] p le = refl
prefix-whole [] (y ∷ ys) p le = absurd (omega arith)
prefix-whole (x ∷ xs) [] p le = absurd (cc (p.1))
prefix-whole (x ∷ xs) (y ∷ ys) p le =
    let rest = prefix-whole xs ys (p.0, cc (p.1)) (omega arith) in cc (p.1, rest)

pub prefix-length : {A : Type 0} (xs ys : List A) → IsPrefix xs ys → length xs ≤ length ys
prefix-length xs ys p = omega (arith, sym (ap length p.1) ∙ length-append xs p.0)

-- what stands in a beginning stands in the whole, at the same place, after the same
pub prefix-get : {A : Type 0} (xs ys : List A) (k : ℕ) (x : A) → IsPrefix xs ys → slice_get xs k ≡ Some x → slice_get ys k ≡ Some x
prefix-get [] ys k x p h = absurd cc
prefix-get (y ∷ xs) [] k x p h = absurd (cc (p.1))
prefix-get (y ∷ xs) (z ∷ ys) zero x p h = cc (p.1, h)
prefix-get (y ∷ xs) (z ∷ ys) (suc k) x p h = prefix-get xs ys k x (p.0, cc (p.1)) h

pub prefix-take : {A : Type 0} (xs ys : List A) (k : ℕ) (x : A) → IsPrefix xs ys → slice_get xs k ≡ Some x → take k ys ≡ take k xs
prefix-take [] ys k x p h = absurd cc
prefix-take (y ∷ xs) [] k x p h = absurd (cc (p.1))
prefix-take (y ∷ xs) (z ∷ ys) zero x p h = refl
prefix-take (y ∷ xs) (z ∷ ys) (suc k) x p h = cc (p.1, prefix-take xs ys k x (p.0, cc (p.1)) h)

-- the last of a list, and those before it
pub last-there : {A : Type 0} (xs : List A) (x : A) → slice_get (xs ++ x ∷ []) (length xs) ≡ Some x
last-there [] x = refl
last-there (y ∷ xs) x = last-there xs x

pub before-last : {A : Type 0} (xs : List A) (x : A) → take (length xs) (xs ++ x ∷ []) ≡ xs
before-last [] x = refl
before-last (y ∷ xs) x = ap (λ l. y ∷ l) (before-last xs x)

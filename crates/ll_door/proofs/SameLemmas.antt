-- Lists of bytes are the same so far, and then one byte more.
use native.Mathlib.Numerals.{unary_clauses}
use Rattle.std.proofs.Common.{◌+◌, ◌≡◌, ℕ, zero, suc, ◌<◌, ◌==◌, ◌&&◌, List, [], ◌∷◌, Bool, true, false, refl, ap, ◌∙◌, bytes_eq, length, take, slice_index, arith}

and-true : (b : Bool) → (b && true) ≡ b
and-true true = refl
and-true false = refl

both : (a b c : Bool) → (a && (b && c)) ≡ ((a && b) && c)
both true b c = refl
both false b c = refl

same_suc : (k : ℕ) (xs ys : List ℕ) → k < length xs → k < length ys
    → bytes_eq (take (suc k) xs) (take (suc k) ys) ≡ (bytes_eq (take k xs) (take k ys) && (slice_index xs k == slice_index ys k))
same_suc k [] ys p q = absurd (omega (arith, p))
same_suc k (x ∷ xs) [] p q = absurd (omega (arith, q))
same_suc zero (x ∷ xs) (y ∷ ys) p q = and-true (x == y)
same_suc (suc k) (x ∷ xs) (y ∷ ys) p q =
    ap (λ b. (x == y) && b) (same_suc k xs ys (omega (arith, p)) (omega (arith, q))) ∙ both (x == y) (bytes_eq (take k xs) (take k ys)) (slice_index xs k == slice_index ys k)

pub same_more : (k : ℕ) (xs ys : List ℕ) → k < length xs → k < length ys
    → bytes_eq (take (k + 1) xs) (take (k + 1) ys) ≡ (bytes_eq (take k xs) (take k ys) && (slice_index xs k == slice_index ys k))
same_more k xs ys p q = simp unary_clauses (same_suc k xs ys p q)

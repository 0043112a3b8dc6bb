-- What is left of a list from a place on.
use Rattle.std.proofs.Common.{◌≡◌, ℕ, zero, suc, List, [], ◌∷◌, drop, Some, ap}
use Rattle.std.proofs.lemmas.Option.{none-some, same_Some}
use Rattle.std.specs.Prelude.{slice_get}

-- what is left from a place on begins with what stands there
pub rest-from : {A : Type 0} (xs : List A) (i : ℕ) (x : A) → slice_get xs i ≡ Some x → drop i xs ≡ x ∷ drop (suc i) xs
rest-from [] i x e = absurd (none-some x e)
rest-from (y ∷ ys) zero x e = ap (λ z. z ∷ ys) (same_Some y x e)
rest-from (y ∷ ys) (suc i) x e = rest-from ys i x e

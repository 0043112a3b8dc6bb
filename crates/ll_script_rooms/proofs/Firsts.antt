-- The first element that passes a test, where the numbers of the elements rise.
use Rattle.std.proofs.Common.{◌≡◌, ℕ, ◌<◌, ◌+◌, ◌==◌, List, [], ◌∷◌, ◌++◌, Bool, true, false, not, cond, Option, Some, None, find, filter, refl, ap, sym, ◌∙◌, subst, arith}
use Rattle.std.proofs.lemmas.Bool.Decides.{nat_tests}
use Rattle.std.proofs.lemmas.Option.{none-some}
use Rattle.std.specs.Set.{remove_key}
use Rattle.ll_book.specs.Numbers.{AreRising, AreUnder, all_but, has_number}
use Rattle.ll_book.proofs.Finds.{its_number}
use Rattle.ll_book.proofs.Keyed.{all_above, itself, kept}

below : (n m : ℕ) → n < m → (n == m) ≡ false
below n m h = grind (arith, nat_tests, h)

-- what is found is the first, or is found among the rest
split : {V G : Type 0} (v x : V) (o : Option V) (b : Bool) → cond b (Some x) o ≡ Some v → (b ≡ true → x ≡ v → G) → (b ≡ false → o ≡ Some v → G) → G
split v x o true f here there = here refl cc
split v x o false f here there = there refl f

module _ {V : Type 0} (number : V → ℕ) where
  -- what is found among those above a number is above it
  pub found_above : (q : V → Bool) (low : ℕ) (v : V) (vs : List V) → AreRising number low vs → find q vs ≡ Some v → low < number v
  found_above q low v [] r f = absurd (none-some v f)
  found_above q low v (x ∷ xs) r f =
      split v x (find q xs) (q x) f (λ h is. subst (λ z. low < number z) is r.0)
      (λ h rest. let higher = found_above q (number x) v xs r.1 rest in omega (arith, higher, r.0))

  -- the first that passes leaves by its number
  pub first_left : (q : V → Bool) (low : ℕ) (v : V) (vs : List V) → AreRising number low vs → find q vs ≡ Some v → remove_key q vs ≡ all_but number (number v) vs
  first_left q low v [] r f = refl
  first_left q low v (x ∷ xs) r f = split v x (find q xs) (q x) f
      (λ h is. ap (λ b. cond b xs (x ∷ remove_key q xs)) h ∙ sym (ap (λ z. all_but number (number z) (x ∷ xs)) (sym is)
      ∙ ap (λ b. cond (not b) (x ∷ all_but number (number x) xs) (all_but number (number x) xs)) (itself (number x)) ∙ all_above number (number x) xs r.1))
      (λ h rest. ap (λ b. cond b xs (x ∷ remove_key q xs)) h ∙ ap (λ zs. x ∷ zs) (first_left q (number x) v xs r.1 rest)
      ∙ sym (kept (number x == number v) x (all_but number (number v) xs) (all_but number (number v) xs) (below (number x) (number v) (found_above q (number x) v xs r.1 rest)) refl))

  -- what is found under its number among the rest is so among all
  later : (w x : V) (xs : List V) → AreRising number (number x) xs → find (has_number number (number w)) xs ≡ Some w → find (has_number number (number w)) (x ∷ xs) ≡ Some w
  later w x xs r f = ap (λ b. cond b (Some x) (find (has_number number (number w)) xs)) (below (number x) (number w) (found_above (has_number number (number w)) (number x) w xs r f)) ∙ f

  own : (x : V) (xs : List V) → find (has_number number (number x)) (x ∷ xs) ≡ Some x
  own x xs = ap (λ b. cond b (Some x) (find (has_number number (number x)) xs)) (itself (number x))

  none_by : (q : V → Bool) (x : V) (o : Option V) (b : Bool) → q x ≡ b → (q x ≡ true → ⊥) → o ≡ None → cond b (Some x) o ≡ None
  none_by q x o true h none ih = absurd (none h)
  none_by q x o false h none ih = ih

  -- if none passes, none is found
  pub none_passes : (q : V → Bool) (low : ℕ) (vs : List V) → AreRising number low vs → ((w : V) → find (has_number number (number w)) vs ≡ Some w → q w ≡ true → ⊥) → find q vs ≡ None
  none_passes q low [] r none = refl
  none_passes q low (x ∷ xs) r none = none_by q x (find q xs) (q x) refl (none x (own x xs)) (none_passes q (number x) xs r.1 (λ w f p. none w (later w x xs r.1 f) p))

  least_by : (q : V → Bool) (v x : V) (o : Option V) (b : Bool) → q x ≡ b → (q x ≡ true → ⊥) → o ≡ Some v → cond b (Some x) o ≡ Some v
  least_by q v x o true h least ih = absurd (least h)
  least_by q v x o false h least ih = ih

  -- the one of the least number of those that pass is found
  pub least_passes : (q : V → Bool) (low n : ℕ) (v : V) (vs : List V) → AreRising number low vs → find (has_number number n) vs ≡ Some v → q v ≡ true
      → ((w : V) → find (has_number number (number w)) vs ≡ Some w → q w ≡ true → number w < n → ⊥) → find q vs ≡ Some v
  least_passes q low n v [] r f p least = absurd (none-some v f)
  least_passes q low n v (x ∷ xs) r f p least = split v x (find (has_number number n) xs) (number x == n) f
      (λ h is. ap (λ b. cond b (Some x) (find q xs)) (ap q is ∙ p) ∙ ap Some is)
      (λ h rest. least_by q v x (find q xs) (q x) refl
      (λ passes. least x (own x xs) passes (subst (λ m. number x < m) (its_number number n v xs rest) (found_above (has_number number n) (number x) v xs r.1 rest)))
      (least_passes q (number x) n v xs r.1 rest p (λ w f p. least w (later w x xs r.1 f) p)))

  -- ---- numbers under a bound

  under_by : (n : ℕ) (v : V) (vs : List V) (b : Bool) → number v < n → AreUnder number n vs → AreUnder number n (cond b (v ∷ vs) vs)
  under_by n v vs true h u = (h, u)
  under_by n v vs false h u = u

  pub under_left : (p : V → Bool) (n : ℕ) (vs : List V) → AreUnder number n vs → AreUnder number n (filter p vs)
  under_left p n [] u = tt
  under_left p n (v ∷ vs) u = under_by n v (filter p vs) (p v) u.0 (under_left p n vs u.1)

  pub under_pushed : (n : ℕ) (v : V) (vs : List V) → AreUnder number n vs → number v ≡ n → AreUnder number (n + 1) (vs ++ v ∷ [])
  under_pushed n v [] u h = (omega (arith, h), tt)
  under_pushed n v (x ∷ xs) u h = (let lower = u.0 in omega (arith, lower), under_pushed n v xs u.1 h)

-- Lists of elements that have a number each, in order of their numbers.
use Rattle.std.specs.Prelude.{◌≡◌, ℕ, ◌<◌, ◌==◌, List, [], ◌∷◌, Bool, true, false, not, filter, map}

module _ {V : Type 0} (number : V → ℕ) where
  -- the numbers rise, from above `low`
  abbrev pub AreRising : ℕ → List V → Type 0
  AreRising low [] = Unit
  AreRising low (v ∷ more) = (low < number v) × AreRising (number v) more

  -- each number is below `high`
  abbrev pub AreUnder : ℕ → List V → Type 0
  AreUnder high [] = Unit
  AreUnder high (v ∷ more) = (number v < high) × AreUnder high more

  -- each element stands under its number, and the numbers rise from above `low`
  abbrev pub AreKeyed : ℕ → List (ℕ × V) → Type 0
  AreKeyed low [] = Unit
  AreKeyed low (e ∷ more) = (e.0 ≡ number e.1) × (low < e.0) × AreKeyed e.0 more

  abbrev pub has_number : ℕ → V → Bool
  has_number n v = number v == n

  -- the elements without that of number `n`
  abbrev pub all_but : ℕ → List V → List V
  all_but n vs = filter (λ v. not (has_number n v)) vs

abbrev pub change_if : {V : Type 0} → Bool → (V → V) → V → V
change_if true f v = f v
change_if false f v = v

-- the elements with that of number `n` changed by `f`
abbrev pub changed : {V : Type 0} → (V → ℕ) → ℕ → (V → V) → List V → List V
changed number n f vs = map (λ v. change_if (number v == n) f v) vs

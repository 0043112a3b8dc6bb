-- Sums of sizes: they only grow.
use Rattle.std.proofs.Common.{◌≡◌, ℕ, ◌+◌, ◌≤◌, ◌^◌, ◌==◌, ◌⊎◌, inl, inr, Bool, true, false, List, [], ◌∷◌, filter, fold, map, cond, refl, ap, sym, subst, ◌∙◌, arith}
use Rattle.std.proofs.lemmas.Bool.Decides.{nat_tests}
use Rattle.ll_variants.specs.Segments.{IsLarge, is_of, no_size, plus, sizes_of, sum_of}
use Rattle.ll_variants.specs.declared.segments.Addition.{Addition}
use Rattle.ll_variants.specs.declared.segments.Size.{Size}

-- a size is no larger than another
pub record IsWithin (a b : Size) : Type 0 where
  pub bytes : a.bytes ≤ b.bytes
  pub duration : a.duration ≤ b.duration

pub large-within : (a b : Size) → IsWithin a b → IsLarge a → IsLarge b
large-within a b w (inl bytes) = inl (omega (arith, w.bytes))
large-within a b w (inr duration) = inr (omega (arith, w.duration))

pub within-through : (a b c : Size) → IsWithin a b → IsWithin b c → IsWithin a c
within-through a b c v w = record { bytes = omega (arith, v.bytes, w.bytes); duration = omega (arith, v.duration, w.duration) }

pub within-same : (a b : Size) → a ≡ b → IsWithin a b
within-same a b e = subst (IsWithin a) e (record { bytes = omega arith; duration = omega arith })

-- ---- sums

-- a sum from a larger size on is larger
pub within-fold : (a b : Size) (sizes : List Size) → IsWithin a b → IsWithin (fold plus a sizes) (fold plus b sizes)
within-fold a b [] w = w
within-fold a b (s ∷ more) w =
    within-fold (plus a s) (plus b s) more (record { bytes = omega (arith, w.bytes); duration = omega (arith, w.duration) })

-- a sum is no smaller than what it goes on from
pub grows : (a : Size) (sizes : List Size) → IsWithin a (fold plus a sizes)
grows a [] = record { bytes = omega arith; duration = omega arith }
grows a (s ∷ more) =
    within-through a (plus a s) (fold plus (plus a s) more) (record { bytes = omega arith; duration = omega arith }) (grows (plus a s) more)

-- nor than the sum of what it goes on with
pub rest-within : (a : Size) (sizes : List Size) → IsWithin (sum_of sizes) (fold plus a sizes)
rest-within a sizes = within-fold no_size a sizes (record { bytes = omega arith; duration = omega arith })

-- a sum is large if its first sizes are
pub large-first : (a s all : Size) (left more : List Size) → left ≡ s ∷ more → IsWithin (fold plus a left) all → IsLarge (plus a s) → IsLarge all
large-first a s all left more e w large =
    let first : IsWithin (plus a s) all = within-through (plus a s) (fold plus (plus a s) more) all (grows (plus a s) more)
    (subst (λ xs. IsWithin (fold plus a xs) all) e w) in
    large-within (plus a s) all first large

-- the sum of all but the first
pub within-later : (s all : Size) (left more : List Size) → left ≡ s ∷ more → IsWithin (sum_of left) all → IsWithin (sum_of more) all
within-later s all left more e w =
    within-through (sum_of more) (fold plus (plus no_size s) more) all (rest-within (plus no_size s) more) (subst (λ xs. IsWithin (sum_of xs) all) e w)

-- ---- what additions add to a rendition

of-itself : (r : ℕ) (a : Addition) → a.rendition ≡ r → is_of r a ≡ true
of-itself r a e = grind (arith, nat_tests)

pub sizes-first : (r : ℕ) (a : Addition) (left more : List Addition) → left ≡ a ∷ more → a.rendition ≡ r → sizes_of r left ≡ a.size ∷ sizes_of r more
sizes-first r a left more e is =
    ap (sizes_of r) e
    ∙ ap (λ b. map (λ (it : Addition). it.size) (cond b (a ∷ filter (is_of r) more) (filter (is_of r) more))) (of-itself r a is)

-- a new segment begins
pub within-ended : (r : ℕ) (sum none all : Size) (a : Addition) (left more : List Addition) → left ≡ a ∷ more → a.rendition ≡ r → none ≡ no_size
    → IsWithin (fold plus sum (sizes_of r left)) all → IsWithin (fold plus none (sizes_of r more)) all
within-ended r sum none all a left more e is none_is w =
    let on : IsWithin (fold plus (plus sum a.size) (sizes_of r more)) all = subst (λ xs. IsWithin (fold plus sum xs) all) (sizes-first r a left more e is) w in
    subst (λ s. IsWithin (fold plus s (sizes_of r more)) all) (sym none_is)
    (within-through (sum_of (sizes_of r more)) (fold plus (plus sum a.size) (sizes_of r more)) all (rest-within (plus sum a.size) (sizes_of r more)) on)

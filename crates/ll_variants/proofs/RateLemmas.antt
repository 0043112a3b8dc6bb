-- The largest rates of sums: those of two lists, of sums that last too long, and those that are too large.
use Rattle.std.proofs.Common.{◌≡◌, ℕ, ◌*◌, ◌^◌, ◌<◌, ◌≤◌, ◌&&◌, ◌⊎◌, inl, inr, List, [], ◌∷◌, ◌++◌, Bool, true, false, refl, ap, sym, subst, ◌∙◌, max, nat_le, arith}
use Rattle.std.proofs.lemmas.Bool.{lt-leb}
use Rattle.ll_variants.specs.Rates.{fastest, is_counted, peak, sets, sums_from}
use Rattle.ll_variants.specs.Segments.{IsLarge, no_size, plus, sum_of}
use Rattle.ll_variants.proofs.SizeLemmas.{IsWithin, large-within}
use Rattle.ll_variants.specs.declared.segments.Size.{Size}

-- ---- two lists

append-one : (t : ℕ) (x : Size) (xs ys : List Size) → fastest t (xs ++ ys) ≡ max (fastest t xs) (fastest t ys)
    → fastest t (x ∷ xs ++ ys) ≡ max (fastest t (x ∷ xs)) (fastest t ys)
append-one t x xs ys more = by_test (is_counted t x) refl
  where
    by_test : (b : Bool) → is_counted t x ≡ b → fastest t (x ∷ xs ++ ys) ≡ max (fastest t (x ∷ xs)) (fastest t ys)
    by_test true e = rw e (omega (arith, more))
    by_test false e = rw e more

pub fastest-append : (t : ℕ) (xs ys : List Size) → fastest t (xs ++ ys) ≡ max (fastest t xs) (fastest t ys)
fastest-append t [] ys = omega arith
fastest-append t (x ∷ xs) ys = append-one t x xs ys (fastest-append t xs ys)

-- one segment less: the sets that begin with it were counted
pub peak_more : (t sofar first all : ℕ) (s : Size) (more : List Size) → first ≡ fastest t (sums_from no_size (s ∷ more)) → max sofar (peak t (s ∷ more)) ≡ all
    → max (max sofar first) (peak t more) ≡ all
peak_more t sofar first all s more e is =
    let split = fastest-append t (sums_from no_size (s ∷ more)) (sets more) in
    let both : peak t (s ∷ more) ≡ max first (peak t more) = split ∙ ap (λ n. max n (peak t more)) (sym e) in omega (arith, both, is)

-- ---- sums that last too long

and-false : (b : Bool) → (b && false) ≡ false
and-false true = refl
and-false false = refl

uncounted : (t : ℕ) (s : Size) → t * 1500000 < s.duration → is_counted t s ≡ false
uncounted t s l =
    ap (λ b. nat_le (t * 500000) s.duration && b) (lt-leb s.duration (t * 1500000) l) ∙ and-false (nat_le (t * 500000) s.duration)

beyond : (t : ℕ) (before : Size) (segments : List Size) → t * 1500000 < before.duration → fastest t (sums_from before segments) ≡ 0
beyond t before [] l = refl
beyond t before (s ∷ more) l =
    let longer : t * 1500000 < (plus before s).duration = omega (arith, l) in rw (uncounted t (plus before s) longer) (beyond t (plus before s) more longer)

-- from the first one on that lasts too long
pub peak_over : (t sofar all : ℕ) (before s : Size) (more : List Size) → t * 1500000 < (plus before s).duration
    → max sofar (fastest t (sums_from before (s ∷ more))) ≡ all → sofar ≡ all
peak_over t sofar all before s more l is =
    let none : fastest t (sums_from before (s ∷ more)) ≡ 0 = rw (uncounted t (plus before s) l) (beyond t (plus before s) more l) in omega (arith, none, is)

-- ---- the same of a list that begins so

pub peak_in : (t sofar first all : ℕ) (left : List Size) (s : Size) (more : List Size) → left ≡ s ∷ more → first ≡ fastest t (sums_from no_size left)
    → max sofar (peak t left) ≡ all → max (max sofar first) (peak t more) ≡ all
peak_in t sofar first all left s more e f is =
    peak_more t sofar first all s more (f ∙ ap (λ l. fastest t (sums_from no_size l)) e) (ap (λ l. max sofar (peak t l)) (sym e) ∙ is)

pub over_in : (t sofar all : ℕ) (before : Size) (left : List Size) (s : Size) (more : List Size) → left ≡ s ∷ more → t * 1500000 < (plus before s).duration
    → max sofar (fastest t (sums_from before left)) ≡ all → sofar ≡ all
over_in t sofar all before left s more e l is = peak_over t sofar all before s more l (ap (λ xs. max sofar (fastest t (sums_from before xs))) (sym e) ∙ is)

-- ---- numbers that are too large

-- the largest rate of sets that begin with the first segment is no larger than the peak
pub peak_large : (t sofar : ℕ) (all left : List Size) (s : Size) (more : List Size) → left ≡ s ∷ more → max sofar (peak t left) ≡ peak t all → IsWithin (sum_of left) (sum_of all)
    → IsLarge (sum_of left) ⊎ (2 ^ 64 ≤ fastest t (sums_from no_size left)) → IsLarge (sum_of all) ⊎ (2 ^ 64 ≤ peak t all)
peak_large t sofar all left s more e is within (inl sum) = inl (large-within (sum_of left) (sum_of all) within sum)
peak_large t sofar all left s more e is within (inr rate) =
    let split = fastest-append t (sums_from no_size (s ∷ more)) (sets more) in
    let first : 2 ^ 64 ≤ fastest t (sums_from no_size (s ∷ more)) = subst (λ l. 2 ^ 64 ≤ fastest t (sums_from no_size l)) e rate in
    let both : max sofar (peak t (s ∷ more)) ≡ peak t all = ap (λ l. max sofar (peak t l)) (sym e) ∙ is in
    inr (omega (arith, first, split, both))

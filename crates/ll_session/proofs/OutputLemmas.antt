-- What is left of one answer, and of all of them.
use Rattle.std.proofs.Common.{◌≡◌, ℕ, suc, ◌+◌, ◌-◌, ◌<◌, ◌≤◌, List, [], ◌∷◌, Bool, true, false, Option, Some, None, MatchOption, nat_le, ap, arith, length, drop}
use Rattle.std.specs.Prelude.{if◌then◌else◌}
use Rattle.ll_session.specs.Output.{unsent}

-- ---- answers are dropped one by one

-- what is left of answers whose first `n` bytes are still to be dropped
abbrev pub left : Option ℕ → List (List ℕ) → List (List ℕ)
left None answers = answers
left (Some n) answers = unsent n answers

abbrev pub weight : Option ℕ → ℕ
weight None = 0
weight (Some n) = 1

fewer_by : (b : Bool) (a : List ℕ) (xs ys : List (List ℕ)) (n : ℕ) → length xs ≤ length ys → length (if b then xs else drop n a ∷ ys) ≤ suc (length ys)
fewer_by true a xs ys n h = omega (arith, h)
fewer_by false a xs ys n h = omega arith

fewer : (n : ℕ) (xs : List (List ℕ)) → length (unsent n xs) ≤ length xs
fewer n [] = omega arith
fewer n (a ∷ xs) = fewer_by (nat_le (length a) n) a (unsent (n - length a) xs) xs n (fewer (n - length a) xs)

-- a turn drops an answer, or is the last
pub smaller : (before after : Option ℕ) (n : ℕ) (new old : List (List ℕ)) → before ≡ Some n
    → MatchOption after (new ≡ unsent n old) (λ rest. (unsent rest new ≡ unsent n old) × (length new < length old)) → weight after + length new < weight before + length old
smaller before None n new old is h = let f = fewer n old in let l = ap length h in let w = ap weight is in omega (arith, f, l, w)
smaller before (Some m) n new old is h = let l = h.1 in let w = ap weight is in omega (arith, l, w)

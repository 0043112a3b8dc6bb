-- A text that can't be cut at a place has a byte past ASCII there, which none of these texts begins with.
use Rattle.std.proofs.Common.{◌≡◌, ℕ, ◌≤◌, ◌<◌, ◌==◌, ◌&&◌, Bool, true, false, List, [], ◌∷◌, length, get_or, drop, take, refl, codes, Some, ap, sym, ◌∙◌, arith, nat_lt}
use Rattle.std.proofs.Math.Seq.{drop-cons}
use Rattle.std.proofs.lemmas.Bool.Decides.{nat_tests}
use Rattle.std.proofs.lemmas.List.{at_drop_all}
use Rattle.ll_attr.specs.Words.{after, pieces_at}
use Rattle.std.specs.Str.{IsCharBoundary}
use Rattle.ll_format.specs.Dates.{is_date, is_date_time, is_offset, is_rest, is_time, time_of_day}

module _ (F : List ℕ → Bool) (none : F [] ≡ false) (high : (b : ℕ) (bs : List ℕ) → 128 ≤ b → F (b ∷ bs) ≡ false) (text : List ℕ) (n : ℕ) (inside : IsCharBoundary text n → ⊥) where
  by_byte : (b : Bool) → nat_lt (get_or text n 0) 128 ≡ b → n < length text → F (drop n text) ≡ false
  by_byte true e h = absurd (inside (omega arith, λ _ k. absurd (grind (arith, nat_tests))))
  by_byte false e h = ap F (drop-cons text n 0 h) ∙ high (get_or text n 0) _ (grind (arith, nat_tests))

  by_length : (b : Bool) → nat_lt n (length text) ≡ b → F (drop n text) ≡ false
  by_length true e = by_byte (nat_lt (get_or text n 0) 128) refl (grind (arith, nat_tests))
  by_length false e = at_drop_all F text n (grind (arith, nat_tests)) ∙ none

  not_after : F (drop n text) ≡ false
  not_after = by_length (nat_lt n (length text)) refl

high_offset : (b : ℕ) (bs : List ℕ) → 128 ≤ b → is_offset (b ∷ bs) ≡ false
high_offset b bs h = grind (arith, nat_tests)

high_rest : (b : ℕ) (bs : List ℕ) → 128 ≤ b → is_rest (b ∷ bs) ≡ false
high_rest b bs h = grind (arith, nat_tests, high_offset b bs h)

high_time : (b : ℕ) (bs : List ℕ) → 128 ≤ b → is_time (b ∷ bs) ≡ false
high_time b bs h = grind (arith, nat_tests)

last_false : (a b : Bool) → b ≡ false → false ≡ (a && b)
last_false true b e = sym e
last_false false b e = refl

pub date_time-uncut : (text : List ℕ) → (IsCharBoundary text 10 → ⊥) → false ≡ is_date_time text
date_time-uncut text inside = last_false (is_date (take 10 text)) (is_time (drop 10 text)) (not_after is_time refl high_time text 10 inside)

by_first : (b : ℕ) (bs rest : List ℕ) (x : Bool) → (b == 84) ≡ x → after (codes "T") (b ∷ bs) ≡ Some rest → is_time (b ∷ bs) ≡ (time_of_day (pieces_at 58 (take 8 rest)) && is_rest (drop 8 rest))
by_first b bs rest true e h = grind (arith, nat_tests)
by_first b bs rest false e h = grind (arith, nat_tests)

-- what follows the `T` of a time
time-after : (text rest : List ℕ) → after (codes "T") text ≡ Some rest → is_time text ≡ (time_of_day (pieces_at 58 (take 8 rest)) && is_rest (drop 8 rest))
time-after [] rest h = absurd (cc)
time-after (b ∷ bs) rest h = by_first b bs rest (b == 84) refl h

pub time-uncut : (text rest : List ℕ) → after (codes "T") text ≡ Some rest → (IsCharBoundary rest 8 → ⊥) → false ≡ is_time text
time-uncut text rest h inside =
    last_false (time_of_day (pieces_at 58 (take 8 rest))) (is_rest (drop 8 rest)) (not_after is_rest refl high_rest rest 8 inside) ∙ sym (time-after text rest h)

pub time-cut : (text rest time tail : List ℕ) (a b : Bool) → after (codes "T") text ≡ Some rest → time ≡ take 8 rest → tail ≡ drop 8 rest
    → a ≡ time_of_day (pieces_at 58 time) → b ≡ is_rest tail → (a && b) ≡ is_time text
time-cut text rest time tail a b h front back e f =
    ap (λ x. x && b) (e ∙ ap (λ t. time_of_day (pieces_at 58 t)) front) ∙ ap (λ x. time_of_day (pieces_at 58 (take 8 rest)) && x) (f ∙ ap is_rest back) ∙ sym (time-after text rest h)

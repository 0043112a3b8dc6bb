-- What follows the last separator is digits, or it isn't a number: with a further separator in it, it never is.
use Rattle.std.proofs.Common.{◌≡◌, ℕ, ◌<◌, ◌==◌, ◌&&◌, Bool, true, false, List, [], ◌∷◌, length, refl, ap, sym, ◌∙◌, arith, Option, Some, None}
use Rattle.std.proofs.lemmas.Bool.Decides.{nat_tests}
use Rattle.std.proofs.lemmas.List.Elements.{All-from_recursion}
use Rattle.std.proofs.lemmas.List.Splits.{slice_split_none, join_with_byte-slice_split, length-slice_split}
use Rattle.std.specs.Char.{is_ascii_digit}
use Rattle.std.specs.List.{AllByRecursion, join_with_byte}
use Rattle.std.specs.Str.{all_ascii_digits}
use Rattle.ll_attr.specs.Words.{pieces_at}
use Rattle.ll_format.specs.Dates.{number_of, is_at_most, is_day, date_of, offset_of, time_of_day}

none_by_recursion : (c : ℕ) (ds : List ℕ) → is_ascii_digit c ≡ false → all_ascii_digits ds ≡ true → AllByRecursion (λ b. (b == c) ≡ false) ds
none_by_recursion c [] no_digit h = tt
none_by_recursion c (d ∷ ds) no_digit h = (grind (arith, nat_tests), none_by_recursion c ds no_digit (grind (arith, nat_tests)))

alone : (c : ℕ) (ds : List ℕ) → is_ascii_digit c ≡ false → all_ascii_digits ds ≡ true → pieces_at c ds ≡ ds ∷ []
alone c ds no_digit h =
    slice_split_none (λ b. b == c) ds (All-from_recursion (λ b. (b == c) ≡ false) ds (none_by_recursion c ds no_digit h))

module _ (c : ℕ) (no_digit : is_ascii_digit c ≡ false) (F : List (List ℕ) → Bool) (G : List ℕ → Bool) (one : (t : List ℕ) → F (t ∷ []) ≡ G t)
    (more : (t u : List ℕ) (ts : List (List ℕ)) → F (t ∷ (u ∷ ts)) ≡ false) (none : (t : List ℕ) → all_ascii_digits t ≡ false → G t ≡ false) where
  by_parts : (t : List ℕ) (ps : List (List ℕ)) → join_with_byte c ps ≡ t → 0 < length ps → all_ascii_digits t ≡ false → F ps ≡ G t
  by_parts t [] e some h = absurd (omega arith)
  by_parts t (x ∷ []) e some h = one x ∙ ap G e
  by_parts t (x ∷ y ∷ ps) e some h = more x y ps ∙ sym (none t h)

  by_digits : (t : List ℕ) (b : Bool) → all_ascii_digits t ≡ b → F (pieces_at c t) ≡ G t
  by_digits t true h = ap F (alone c t no_digit h) ∙ one t
  by_digits t false h =
      by_parts t (pieces_at c t) (join_with_byte-slice_split c t) (omega (arith, length-slice_split (λ b. b == c) t)) h

  pub last_part : (t : List ℕ) → F (pieces_at c t) ≡ G t
  last_part t = by_digits t (all_ascii_digits t) refl

no_number : (count : ℕ) (t : List ℕ) → all_ascii_digits t ≡ false → number_of count t ≡ None
no_number count t h = grind (arith, nat_tests)

no_limit : (most : ℕ) (o : Option ℕ) → o ≡ None → is_at_most most o ≡ false
no_limit most o e = ap (is_at_most most) e

no_day : (year month : Option ℕ) → is_day year month None ≡ false
no_day None month = refl
no_day (Some y) None = refl
no_day (Some y) (Some m) = refl

last_false : (a b : Bool) → b ≡ false → (a && b) ≡ false
last_false true b e = e
last_false false b e = refl

pub day-last : (year month day : List ℕ) → date_of (year ∷ (month ∷ pieces_at 45 day)) ≡ is_day (number_of 4 year) (number_of 2 month) (number_of 2 day)
day-last year month day =
    last_part 45 refl (λ ps. date_of (year ∷ (month ∷ ps))) (λ t. is_day (number_of 4 year) (number_of 2 month) (number_of 2 t))
    (λ t. refl) (λ t u ts. refl)
    (λ t h. ap (is_day (number_of 4 year) (number_of 2 month)) (no_number 2 t h) ∙ no_day (number_of 4 year) (number_of 2 month)) day

pub minutes-last : (hours minutes : List ℕ) → offset_of (hours ∷ pieces_at 58 minutes) ≡ (is_at_most 23 (number_of 2 hours) && is_at_most 59 (number_of 2 minutes))
minutes-last hours minutes =
    last_part 58 refl (λ ps. offset_of (hours ∷ ps)) (λ t. is_at_most 23 (number_of 2 hours) && is_at_most 59 (number_of 2 t))
    (λ t. refl) (λ t u ts. refl)
    (λ t h. last_false (is_at_most 23 (number_of 2 hours)) (is_at_most 59 (number_of 2 t)) (no_limit 59 (number_of 2 t) (no_number 2 t h))) minutes

pub seconds-last : (hours minutes seconds : List ℕ) → time_of_day (hours ∷ (minutes ∷ pieces_at 58 seconds))
    ≡ ((is_at_most 23 (number_of 2 hours) && is_at_most 59 (number_of 2 minutes)) && is_at_most 59 (number_of 2 seconds))
seconds-last hours minutes seconds =
    last_part 58 refl (λ ps. time_of_day (hours ∷ (minutes ∷ ps)))
    (λ t. (is_at_most 23 (number_of 2 hours) && is_at_most 59 (number_of 2 minutes)) && is_at_most 59 (number_of 2 t))
    (λ t. refl) (λ t u ts. refl)
    (λ t h. last_false (is_at_most 23 (number_of 2 hours) && is_at_most 59 (number_of 2 minutes)) (is_at_most 59 (number_of 2 t)) (no_limit 59 (number_of 2 t) (no_number 2 t h))) seconds

-- a text that is cut at its first colon
pub offset-cut : (text hours minutes : List ℕ) (a b : Bool) → pieces_at 58 text ≡ hours ∷ pieces_at 58 minutes
    → a ≡ is_at_most 23 (number_of 2 hours) → b ≡ is_at_most 59 (number_of 2 minutes) → (a && b) ≡ offset_of (pieces_at 58 text)
offset-cut text hours minutes a b parts e f = ap (λ x. x && b) e ∙ ap (λ x. is_at_most 23 (number_of 2 hours) && x) f ∙ sym (minutes-last hours minutes) ∙ ap offset_of (sym parts)

-- a text that is cut at its first two colons
pub time-cut : (text hours rest minutes seconds : List ℕ) (a b c : Bool) → pieces_at 58 text ≡ hours ∷ pieces_at 58 rest → pieces_at 58 rest ≡ minutes ∷ pieces_at 58 seconds
    → a ≡ is_at_most 23 (number_of 2 hours) → b ≡ is_at_most 59 (number_of 2 minutes) → c ≡ is_at_most 59 (number_of 2 seconds)
    → ((a && b) && c) ≡ time_of_day (pieces_at 58 text)
time-cut text hours rest minutes seconds a b c parts more e f g =
    ap (λ x. (x && b) && c) e ∙ ap (λ x. (is_at_most 23 (number_of 2 hours) && x) && c) f ∙ ap (λ x. (is_at_most 23 (number_of 2 hours) && is_at_most 59 (number_of 2 minutes)) && x) g
    ∙ sym (seconds-last hours minutes seconds) ∙ ap (λ ps. time_of_day (hours ∷ ps)) (sym more) ∙ ap time_of_day (sym parts)

-- A text is the spelling of the duration that is read from it if its seconds are spelled so and six digits
-- follow its point.
use Rattle.std.proofs.Common.{◌≡◌, ℕ, ◌+◌, ◌-◌, ◌*◌, ◌/◌, ◌%◌, ◌^◌, ◌<◌, ◌≤◌, ◌++◌, ◌&&◌, Bool, true, false, List, [], ◌∷◌, length, refl, ap, sym, ◌∙◌, arith, decimal, Some, None, bytes_eq, if◌then◌else◌}
use Rattle.std.proofs.lemmas.Bool.Decides.{nat_tests}
use Rattle.std.proofs.lemmas.Fmt.{digits_decimal}
use Rattle.std.proofs.lemmas.List.Splits.{slice_split_none, slice_split_at, join_with_byte-slice_split}
use Rattle.std.proofs.lemmas.Option.{cond_some}
use Rattle.std.proofs.lemmas.Str.{digit_value_digit}
use Rattle.std.specs.Char.{digit_value}
use Rattle.std.proofs.lemmas.Slice.Eq.{bytes_eq-Decides}
use Rattle.std.specs.List.{join_with_byte}
use Rattle.std.specs.Str.{all_ascii_digits}
use Rattle.std.specs.Str.Parse.{digits_value}
use Rattle.ll_attr.specs.Durations.{seconds, micros_in, micros_of_parts}
use Rattle.ll_attr.specs.Numbers.{is_digits}
use Rattle.ll_attr.specs.Words.{pieces_at}
use Rattle.ll_attr.proofs.Digits.{digits_model, is_digits-parts, no_point}
use Rattle.ll_attr.proofs.MicrosAtCut.{one_cut, is_point}
use Rattle.ll_attr.proofs.ReadsBack.{six_digits, seconds-six_digits, is_digits-six_digits}
use Rattle.ll_format.specs.Words.{duration, spelled_by}

place_of : (n w a b c d e f : ℕ) → a ≤ 9 → b ≤ 9 → c ≤ 9 → d ≤ 9 → e ≤ 9 → f ≤ 9 → n ≡ w * 1000000 + (a * 100000 + b * 10000 + c * 1000 + d * 100 + e * 10 + f)
    → (n / 100000 % 10 ≡ a) × (n / 10000 % 10 ≡ b) × (n / 1000 % 10 ≡ c) × (n / 100 % 10 ≡ d) × (n / 10 % 10 ≡ e) × (n % 10 ≡ f)
place_of n w a b c d e f ha hb hc hd he hf h =
    (omega arith, omega arith, omega arith, omega arith, omega arith, omega arith)

same_digits : (n w : ℕ) (fraction : List ℕ) → length fraction ≡ 6 → all_ascii_digits fraction ≡ true → n ≡ w * 1000000 + digits_value 10 fraction → six_digits n ≡ fraction
same_digits n w [] six all h = absurd (omega arith)
same_digits n w (a ∷ []) six all h = absurd (omega arith)
same_digits n w (a ∷ b ∷ []) six all h = absurd (omega arith)
same_digits n w (a ∷ b ∷ c ∷ []) six all h = absurd (omega arith)
same_digits n w (a ∷ b ∷ c ∷ d ∷ []) six all h = absurd (omega arith)
same_digits n w (a ∷ b ∷ c ∷ d ∷ e ∷ []) six all h = absurd (omega arith)
same_digits n w (a ∷ b ∷ c ∷ d ∷ e ∷ f ∷ g ∷ more) six all h = absurd (omega arith)
same_digits n w (a ∷ b ∷ c ∷ d ∷ e ∷ f ∷ []) six all h =
    let va : digit_value a + 48 ≡ a = digit_value_digit a (grind (arith, nat_tests)) in
    let vb : digit_value b + 48 ≡ b = digit_value_digit b (grind (arith, nat_tests)) in
    let vc : digit_value c + 48 ≡ c = digit_value_digit c (grind (arith, nat_tests)) in
    let vd : digit_value d + 48 ≡ d = digit_value_digit d (grind (arith, nat_tests)) in
    let ve : digit_value e + 48 ≡ e = digit_value_digit e (grind (arith, nat_tests)) in
    let vf : digit_value f + 48 ≡ f = digit_value_digit f (grind (arith, nat_tests)) in
    let la : a ≤ 57 = grind (arith, nat_tests) in
    let lb : b ≤ 57 = grind (arith, nat_tests) in
    let lc : c ≤ 57 = grind (arith, nat_tests) in
    let ld : d ≤ 57 = grind (arith, nat_tests) in
    let le : e ≤ 57 = grind (arith, nat_tests) in
    let lf : f ≤ 57 = grind (arith, nat_tests) in
    let p = place_of n w (digit_value a) (digit_value b) (digit_value c) (digit_value d) (digit_value e) (digit_value f)
    (omega arith) (omega arith) (omega arith) (omega arith) (omega arith) (omega arith) (omega arith) in
    let ea : 48 + n / 100000 % 10 ≡ a = omega (arith, p.0) in
    let eb : 48 + n / 10000 % 10 ≡ b = omega (arith, p.1) in
    let ec : 48 + n / 1000 % 10 ≡ c = omega (arith, p.2) in
    let ed : 48 + n / 100 % 10 ≡ d = omega (arith, p.3) in
    let ee : 48 + n / 10 % 10 ≡ e = omega (arith, p.4) in
    let ef : 48 + n % 10 ≡ f = omega (arith, p.5) in
    cc

-- what a duration that is read consists of
read : (text whole fraction : List ℕ) (n : ℕ) → micros_in text ≡ Some n → pieces_at 46 text ≡ whole ∷ pieces_at 46 fraction
    → (is_digits 12 whole && is_digits 6 fraction ≡ true) × (digits_value 10 whole * 1000000 + digits_value 10 fraction * 10 ^ (6 - length fraction) ≡ n)
read text whole fraction n e p =
    cond_some (is_digits 12 whole && is_digits 6 fraction) _ n
    (sym (one_cut whole fraction _ refl) ∙ ap micros_of_parts (sym p) ∙ e)

right : (x y : Bool) → x && y ≡ true → y ≡ true
right true y h = h
right false y h = cc

module _ (text whole fraction : List ℕ) (n : ℕ) (e : micros_in text ≡ Some n) (p : pieces_at 46 text ≡ whole ∷ pieces_at 46 fraction) (small : n < 2 ^ 64) where
  digits : all_ascii_digits fraction ≡ true
  digits = (is_digits-parts 6 fraction (right (is_digits 12 whole) _ (read text whole fraction n e p).0)).2

  two_parts : pieces_at 46 text ≡ whole ∷ fraction ∷ []
  two_parts = p ∙ ap (λ ps. whole ∷ ps) (slice_split_none is_point fraction (no_point fraction digits))

  joined : whole ++ (46 ∷ fraction) ≡ text
  joined = ap (join_with_byte 46) (sym two_parts) ∙ join_with_byte-slice_split 46 text

  six : length fraction ≡ 6 → six_digits n ≡ fraction
  six h =
      let value = (read text whole fraction n e p).1 in
      let one : 10 ^ (6 - length fraction) ≡ 1 = ap (λ k. 10 ^ (6 - k)) h in
      same_digits n (digits_value 10 whole) fraction h digits (sym value ∙ ap (λ k. digits_value 10 whole * 1000000 + digits_value 10 fraction * k) one ∙ omega arith)

  spelled : decimal (n / 1000000) ≡ whole → length fraction ≡ 6 → seconds n ≡ text
  spelled w h = seconds-six_digits n ∙ ap (λ x. x ++ (46 ∷ six_digits n)) w ∙ ap (λ x. whole ++ (46 ∷ x)) (six h) ∙ joined

  parts_again : seconds n ≡ text → (decimal (n / 1000000) ≡ whole) × (six_digits n ≡ fraction)
  parts_again h =
      let dec = decimal (n / 1000000) in
      let all : all_ascii_digits dec ≡ true = digits_decimal digits_model (n / 1000000) (omega arith) in
      let none = slice_split_none is_point (six_digits n) (no_point (six_digits n) (is_digits-parts 6 (six_digits n) (is_digits-six_digits n)).2) in
      let cut : pieces_at 46 (dec ++ (46 ∷ six_digits n)) ≡ dec ∷ pieces_at 46 (six_digits n) = slice_split_at is_point dec 46 (six_digits n) (no_point dec all) refl in
      let same : dec ∷ six_digits n ∷ [] ≡ whole ∷ fraction ∷ [] =
      sym (cut ∙ ap (λ ps. dec ∷ ps) none) ∙ ap (pieces_at 46) (sym (seconds-six_digits n) ∙ h) ∙ two_parts in
      (cc, cc)

  by_test : (b : Bool) → bytes_eq (seconds n) text ≡ b → duration.read text ≡ (if b then Some n else None)
  by_test b h = ap (λ o. spelled_by o seconds text) e ∙ ap (λ x. if x then Some n else None) h

  -- it is spelled so
  pub duration_some : decimal (n / 1000000) ≡ whole → length fraction ≡ 6 → Some n ≡ duration.read text
  duration_some w h = sym (by_test true ((bytes_eq-Decides (seconds n) text).1 (spelled w h)))

  none_by : (b : Bool) → bytes_eq (seconds n) text ≡ b → (decimal (n / 1000000) ≡ whole → length fraction ≡ 6 → ⊥) → None ≡ duration.read text
  none_by false h other = sym (by_test false h)
  none_by true h other =
      let q = parts_again ((bytes_eq-Decides (seconds n) text).0 h) in
      absurd (other q.0 (ap length (sym q.1)))

  -- it is not
  pub duration_none : (decimal (n / 1000000) ≡ whole → length fraction ≡ 6 → ⊥) → None ≡ duration.read text
  duration_none other = none_by (bytes_eq (seconds n) text) refl other

-- a text without a point has no six digits behind one
uncut : (text : List ℕ) (n : ℕ) (b : Bool) → micros_in text ≡ Some n → pieces_at 46 text ≡ text ∷ [] → n < 2 ^ 64 → bytes_eq (seconds n) text ≡ b → None ≡ duration.read text
uncut text n false e p small h = ap (λ x. if x then Some n else None) (sym h) ∙ sym (ap (λ o. spelled_by o seconds text) e)
uncut text n true e p small h =
    let dec = decimal (n / 1000000) in
    let all : all_ascii_digits dec ≡ true = digits_decimal digits_model (n / 1000000) (omega arith) in
    let none = slice_split_none is_point (six_digits n) (no_point (six_digits n) (is_digits-parts 6 (six_digits n) (is_digits-six_digits n)).2) in
    let cut : pieces_at 46 (dec ++ (46 ∷ six_digits n)) ≡ dec ∷ pieces_at 46 (six_digits n) = slice_split_at is_point dec 46 (six_digits n) (no_point dec all) refl in
    let same : dec ∷ six_digits n ∷ [] ≡ text ∷ [] =
    sym (cut ∙ ap (λ ps. dec ∷ ps) none) ∙ ap (pieces_at 46) (sym (seconds-six_digits n) ∙ (bytes_eq-Decides (seconds n) text).0 h) ∙ p in
    let short : length (dec ∷ six_digits n ∷ []) ≡ 1 = ap length same in
    absurd (omega (arith, short))

pub duration_uncut : (text : List ℕ) (n : ℕ) → micros_in text ≡ Some n → pieces_at 46 text ≡ text ∷ [] → n < 2 ^ 64 → None ≡ duration.read text
duration_uncut text n e p small = uncut text n (bytes_eq (seconds n) text) e p small refl

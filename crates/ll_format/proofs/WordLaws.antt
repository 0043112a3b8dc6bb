-- The laws of the words.
use Rattle.std.proofs.Common.{◌≡◌, ℕ, ◌≤◌, ◌<◌, ◌^◌, ◌/◌, ◌+◌, ◌-◌, ◌*◌, ◌==◌, ◌&&◌, ◌||◌, not, Bool, true, false, List, [], ◌∷◌, get_or, length, refl, ap, sym, ◌∙◌, subst, arith, decimal, nat_lt, nat_le, Option, Some, None, bytes_eq, if◌then◌else◌}
use Rattle.std.proofs.lemmas.Bool.{and_from, and_parts, leb-true, ne_eqb, not_from_false, or_from}
use Rattle.std.proofs.lemmas.Bool.Decides.{nat_tests}
use Rattle.std.proofs.lemmas.Fmt.{digits_decimal, digits_value-decimal, length-decimal-le, decimal_nonempty}
use Rattle.std.proofs.lemmas.List.Folds.{list_all-append}
use Rattle.std.proofs.lemmas.List.Sums.{AllPass-from_list_all, list_all-from_AllPass}
use Rattle.std.proofs.lemmas.Slice.Eq.{bytes_eq-Decides}
use Rattle.std.proofs.lemmas.Str.Parse.{digits_value_short}
use Rattle.std.specs.Char.{is_ascii_digit}
use Rattle.std.specs.List.{list_all}
use Rattle.std.specs.Str.{all_ascii_digits}
use Rattle.std.specs.Str.Parse.{digits_value}
use Rattle.ll_attr.specs.Attributes.{is_quoted_byte}
use Rattle.ll_attr.specs.Durations.{seconds, micros_in, micros_of_parts}
use Rattle.ll_attr.specs.Numbers.{is_digits, number_in}
use Rattle.ll_attr.specs.Words.{pieces_at}
use Rattle.ll_attr.proofs.Fractions.{fraction_in-lt}
use Rattle.ll_attr.proofs.Digits.{digits_model, list_all-is_ascii_digit, is_digits-parts}
use Rattle.ll_attr.proofs.ReadsBack.{six_digits, seconds-six_digits, is_digits-six_digits, reads_back}
use Rattle.ll_format.specs.Words.{is_line_byte, spelled_by, at_most, number, duration_end, duration, text_if, is_uri, uri, is_rest, rest_of_line, is_quotable, quotable}
use Rattle.ll_format.proofs.FormatLaws.{WordLaws, guarded, some_is, lacks}

-- a weaker test
all_also : (p q : ℕ → Bool) (text : List ℕ) → ((b : ℕ) → p b ≡ true → q b ≡ true) → list_all p text ≡ true → list_all q text ≡ true
all_also p q text weaker h =
    list_all-from_AllPass q text (λ k d within. weaker (get_or text k d) (AllPass-from_list_all p text h k d within))

apart : (p : ℕ → Bool) (b c : ℕ) → p c ≡ false → p b ≡ true → (b == c) ≡ false
apart p b c fails passes = ne_eqb b c (λ same. cc)

pub lacks_from : (p : ℕ → Bool) (c : ℕ) (text : List ℕ) → p c ≡ false → list_all p text ≡ true → lacks c text ≡ true
lacks_from p c text fails h = all_also p (λ b. not (b == c)) text (λ b passes. not_from_false (b == c) (apart p b c fails passes)) h

pub inside_from : (p : ℕ → Bool) (text : List ℕ) → p 13 ≡ false → p 10 ≡ false → list_all p text ≡ true → list_all is_line_byte text ≡ true
inside_from p text returns feeds h =
    all_also p is_line_byte text
    (λ b passes. not_from_false (b == 13 || b == 10) (or_from (b == 13) (b == 10) (apart p b 13 returns passes) (apart p b 10 feeds passes))) h

-- a digit or a point
abbrev pub is_figure : ℕ → Bool
is_figure b = is_ascii_digit b || b == 46

figures : (text : List ℕ) → all_ascii_digits text ≡ true → list_all is_figure text ≡ true
figures text h = all_also is_ascii_digit is_figure text (λ b d. ap (λ x. x || b == 46) d) (list_all-is_ascii_digit text ∙ h)

decimal_figures : (n : ℕ) → n < 2 ^ 64 → list_all is_figure (decimal n) ≡ true
decimal_figures n small = figures (decimal n) (digits_decimal digits_model n small)

pub number_figures : (most n : ℕ) → most < 2 ^ 64 → n ≤ most → list_all is_figure (decimal n) ≡ true
number_figures most n in_word small = decimal_figures n (omega arith)

pub duration_figures : (n : ℕ) → n < 10 ^ 18 → list_all is_figure (seconds n) ≡ true
duration_figures n small =
    ap (list_all is_figure) (seconds-six_digits n)
    ∙ list_all-append is_figure (decimal (n / 1000000)) (46 ∷ six_digits n)
    ∙ and_from (list_all is_figure (decimal (n / 1000000))) (list_all is_figure (46 ∷ six_digits n)) (decimal_figures (n / 1000000) (omega arith))
    (figures (six_digits n) (is_digits-parts 6 (six_digits n) (is_digits-six_digits n)).2)

number_by : (x y : Bool) (n m : ℕ) → x ≡ true → y ≡ true → n ≡ m → (let o : Option ℕ = if x && y then Some n else None in o) ≡ Some m
number_by true true n m h k e = ap Some e
number_by true false n m h k e = cc
number_by false y n m h k e = cc

below_64 : (n : ℕ) → n < 2 ^ 64 → nat_lt n (2 ^ 64) ≡ true
below_64 n small = grind (arith, nat_tests)

twenty : (n : ℕ) → n < 2 ^ 64 → is_digits 20 (decimal n) ≡ true
twenty n small =
    let all : all_ascii_digits (decimal n) ≡ true = digits_decimal digits_model n small in
    let some = decimal_nonempty n small in
    let short = length-decimal-le 20 n (omega arith) (omega arith) small in
    grind (arith, nat_tests)

number_back : (n : ℕ) → n < 2 ^ 64 → number_in 20 (decimal n) ≡ Some n
number_back n small =
    let value = digits_value-decimal digits_model n small in
    number_by (is_digits 20 (decimal n)) (nat_lt (digits_value 10 (decimal n)) (2 ^ 64)) (digits_value 10 (decimal n)) n
    (twenty n small) (ap (λ m. nat_lt m (2 ^ 64)) value ∙ below_64 n small) value

some_by : (x : Bool) (n : ℕ) → x ≡ true → (let o : Option ℕ = if x then Some n else None in o) ≡ Some n
some_by true n h = refl
some_by false n h = cc

spelled_same : (spelled : ℕ → List ℕ) (n : ℕ) → spelled_by (Some n) spelled (spelled n) ≡ Some n
spelled_same spelled n = some_by (bytes_eq (spelled n) (spelled n)) n ((bytes_eq-Decides (spelled n) (spelled n)).1 refl)

spelled_takes : (o : Option ℕ) (spelled : ℕ → List ℕ) (text : List ℕ) (n : ℕ) → spelled_by o spelled text ≡ Some n → (o ≡ Some n) × (text ≡ spelled n)
spelled_takes None spelled text n e = absurd cc
spelled_takes (Some m) spelled text n e =
    let p = guarded (bytes_eq (spelled m) text) (Some m) n e in
    (p.1, sym ((bytes_eq-Decides (spelled m) text).0 p.0) ∙ ap spelled (some_is m n p.1))

most_takes : (most : ℕ) (o : Option ℕ) (n : ℕ) → at_most most o ≡ Some n → (o ≡ Some n) × (n ≤ most)
most_takes most None n e = absurd cc
most_takes most (Some m) n e =
    let p = guarded (nat_le m most) (Some m) n e in
    (p.1, subst (λ k. k ≤ most) (some_is m n p.1) (leb-true m most p.0))

pub number-laws : (most : ℕ) → most < 2 ^ 64 → WordLaws (number most)
number-laws most in_word = record {
  takes = λ text n e.
      let m = most_takes most (spelled_by (number_in 20 text) decimal text) n e in
      ((spelled_takes (number_in 20 text) decimal text n m.0).1, m.1);
  again = λ n small.
      ap (λ o. at_most most (spelled_by o decimal (decimal n))) (number_back n (omega arith))
      ∙ ap (at_most most) (spelled_same decimal n)
      ∙ some_by (nat_le n most) n (grind (arith, nat_tests));
  inside = λ n small. inside_from is_figure (decimal n) refl refl (number_figures most n in_word small);
}

whole_small : (whole : List ℕ) → is_digits 12 whole ≡ true → digits_value 10 whole < 10 ^ 12
whole_small whole h =
    let p = is_digits-parts 12 whole h in
    digits_value_short digits_model whole 12 p.2 p.1

fraction_small : (fraction : List ℕ) → is_digits 6 fraction ≡ true → digits_value 10 fraction * 10 ^ (6 - length fraction) < 1000000
fraction_small fraction h = fraction_in-lt fraction _ (sym (ap (λ b. if b then Some (digits_value 10 fraction * 10 ^ (6 - length fraction)) else None) h))

parts_small : (parts : List (List ℕ)) (n : ℕ) → micros_of_parts parts ≡ Some n → n < 10 ^ 18
parts_small [] n e = absurd cc
parts_small (whole ∷ []) n e =
    let p = guarded (is_digits 12 whole) (Some (digits_value 10 whole * 1000000)) n e in
    omega (arith, some_is (digits_value 10 whole * 1000000) n p.1, whole_small whole p.0)
parts_small (whole ∷ fraction ∷ []) n e =
    let value = digits_value 10 whole * 1000000 + digits_value 10 fraction * 10 ^ (6 - length fraction) in
    let p = guarded (is_digits 12 whole && is_digits 6 fraction) (Some value) n e in
    let q = and_parts (is_digits 12 whole) (is_digits 6 fraction) p.0 in
    omega (arith, some_is value n p.1, whole_small whole q.0, fraction_small fraction q.1)
parts_small (whole ∷ fraction ∷ other ∷ more) n e = absurd cc

micros_small : (text : List ℕ) (n : ℕ) → micros_in text ≡ Some n → n < 10 ^ 18
micros_small text n e = parts_small (pieces_at 46 text) n e

pub duration-laws : WordLaws duration
duration-laws = record {
  takes = λ text n e.
      let s = spelled_takes (micros_in text) seconds text n e in
      (s.1, micros_small text n s.0);
  again = λ n small. ap (λ o. spelled_by o seconds (seconds n)) (reads_back n small) ∙ spelled_same seconds n;
  inside = λ n small. inside_from is_figure (seconds n) refl refl (duration_figures n small);
}

pub text_if-laws : (test : List ℕ → Bool) → ((text : List ℕ) → test text ≡ true → list_all is_line_byte text ≡ true) → WordLaws (text_if test)
text_if-laws test on = record {
  takes = λ text x e.
      let p = guarded (test text) (Some text) x e in
      (some_is text x p.1, subst (λ t. test t ≡ true) (some_is text x p.1) p.0);
  again = λ x h. ap (λ b. if b then Some x else None) h;
  inside = on;
}

pub uri_quoted : (text : List ℕ) → is_uri text ≡ true → list_all is_quoted_byte text ≡ true
uri_quoted text h = (and_parts (nat_le 1 (length text)) (list_all is_quoted_byte text) h).1

pub uri-laws : WordLaws uri
uri-laws = text_if-laws is_uri (λ text h. inside_from is_quoted_byte text refl refl (uri_quoted text h))

pub rest_of_line-laws : WordLaws rest_of_line
rest_of_line-laws = text_if-laws is_rest (λ text h. (and_parts (nat_le 1 (length text)) (list_all is_line_byte text) h).1)

pub quotable-laws : WordLaws quotable
quotable-laws = text_if-laws is_quotable (λ text h. inside_from is_quoted_byte text refl refl h)

-- a word has no separator in it
pub number-lacks : (c most n : ℕ) → is_figure c ≡ false → most < 2 ^ 64 → n ≤ most → lacks c (decimal n) ≡ true
number-lacks c most n none in_word small = lacks_from is_figure c (decimal n) none (number_figures most n in_word small)

pub duration-lacks : (c n : ℕ) → is_figure c ≡ false → n < duration_end → lacks c (seconds n) ≡ true
duration-lacks c n none small = lacks_from is_figure c (seconds n) none (duration_figures n small)

pub quotable-lacks : (text : List ℕ) → is_quotable text ≡ true → lacks 34 text ≡ true
quotable-lacks text h = lacks_from is_quoted_byte 34 text refl h

pub uri-lacks : (text : List ℕ) → is_uri text ≡ true → lacks 34 text ≡ true
uri-lacks text h = quotable-lacks text (uri_quoted text h)

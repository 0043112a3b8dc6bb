-- What `seconds` writes is read back: it writes the whole seconds, a point and six digits, whose value is what is left of the microseconds.
use Rattle.std.proofs.Common.{◌≡◌, ℕ, ◌+◌, ◌/◌, ◌%◌, ◌<◌, ◌^◌, ◌++◌, true, List, [], ◌∷◌, ap, ◌∙◌, arith, decimal, Some}
use Rattle.std.proofs.lemmas.Bool.Decides.{nat_tests}
use Rattle.std.proofs.lemmas.Fmt.{decimal_digit, digits_decimal, digits_value-decimal, length-decimal-le, decimal_nonempty}
use Rattle.std.specs.Str.{all_ascii_digits}
use Rattle.std.specs.Str.Parse.{digits_value}
use Rattle.ll_attr.specs.Durations.{seconds, micros_in, ReadsBack}
use Rattle.ll_attr.specs.Numbers.{is_digits}
use Rattle.ll_attr.proofs.Digits.{digits_model}
use Rattle.ll_attr.proofs.MicrosAtCut.{micros_in-point}

abbrev pub six_digits : ℕ → List ℕ
six_digits n =
    (48 + n / 100000 % 10) ∷ (48 + n / 10000 % 10) ∷ (48 + n / 1000 % 10) ∷ (48 + n / 100 % 10) ∷ (48 + n / 10 % 10) ∷ (48 + n % 10) ∷ []

decimal_place : (n : ℕ) → decimal (n % 10) ≡ (48 + n % 10) ∷ []
decimal_place n = decimal_digit (n % 10) (omega arith)

pub seconds-six_digits : (n : ℕ) → seconds n ≡ decimal (n / 1000000) ++ (46 ∷ six_digits n)
unfolding seconds
seconds-six_digits n = simp decimal_place

pub is_digits-six_digits : (n : ℕ) → is_digits 6 (six_digits n) ≡ true
is_digits-six_digits n = grind (arith, nat_tests)

digits_value-six_digits : (n : ℕ) → digits_value 10 (six_digits n) ≡ n % 1000000
digits_value-six_digits n = grind (arith, nat_tests)

pub is_digits-decimal : (n : ℕ) → n < 10 ^ 12 → is_digits 12 (decimal n) ≡ true
is_digits-decimal n small =
    let all : all_ascii_digits (decimal n) ≡ true = digits_decimal digits_model n (omega arith) in
    let some = decimal_nonempty n (omega arith) in
    let short = length-decimal-le 12 n (omega arith) small (omega arith) in
    grind (arith, nat_tests)

pub reads_back : ReadsBack
reads_back n small =
    ap micros_in (seconds-six_digits n)
    ∙ micros_in-point (decimal (n / 1000000)) (six_digits n) (is_digits-decimal (n / 1000000) (omega arith)) (is_digits-six_digits n)
    ∙ ap Some (omega (arith, digits_value-six_digits n, digits_value-decimal digits_model (n / 1000000) (omega arith)))

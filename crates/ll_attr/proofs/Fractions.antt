-- Digits after a point are less than a second: k of them are below 10 ^ k, and the scale is the 10 ^ (6 - k) that is left of a million.
use Rattle.std.proofs.Common.{◌≡◌, ℕ, ◌+◌, ◌-◌, ◌*◌, ◌<◌, ◌^◌, List, length, ap, sym, ◌∙◌, arith, Option, Some, None, if◌then◌else◌}
use Rattle.std.proofs.Math.Nat.{one-le-pow, mul-lt-mul_of_pos_right}
use Rattle.std.proofs.lemmas.Bool.Decides.{nat_tests}
use Rattle.std.proofs.lemmas.Nat.{pow-add}
use Rattle.std.proofs.lemmas.Option.{cond_some}
use Rattle.std.proofs.lemmas.Str.Parse.{digits_value_short}
use Rattle.std.specs.Str.Parse.{digits_value}
use Rattle.ll_attr.specs.Numbers.{is_digits, number_in}
use Rattle.ll_attr.proofs.Digits.{digits_model, is_digits-parts, number_in-short, number_in_some}

-- the microseconds of 1 to 6 digits after a point
abbrev pub fraction_in : List ℕ → Option ℕ
fraction_in text = if is_digits 6 text then Some (digits_value 10 text * 10 ^ (6 - length text)) else None

pub scaled-lt : (text : List ℕ) (n : ℕ) → Some n ≡ number_in 6 text → n * 10 ^ (6 - length text) < 1000000
scaled-lt text n e =
    let p = number_in_some 6 text n e in
    let q = is_digits-parts 6 text p.0 in
    let below : n < 10 ^ length text = rw (← p.1) (digits_value_short digits_model text (length text) q.2 (omega arith)) in
    let scaled : n * 10 ^ (6 - length text) < 10 ^ length text * 10 ^ (6 - length text) =
    mul-lt-mul_of_pos_right below (one-le-pow (6 - length text) 10 (omega arith)) in
    let six : length text + (6 - length text) ≡ 6 = omega arith in
    omega (arith, sym (pow-add 10 (length text) (6 - length text)) ∙ ap (λ k. 10 ^ k) six)

pub fraction_in-lt : (text : List ℕ) (n : ℕ) → Some n ≡ fraction_in text → n < 1000000
fraction_in-lt text n e =
    let p = cond_some (is_digits 6 text) _ n (sym e) in
    omega (arith, p.1, scaled-lt text (digits_value 10 text) (grind (arith, nat_tests, number_in-short)))

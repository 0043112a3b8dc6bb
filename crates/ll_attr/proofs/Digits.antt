-- `parse` reads a text of digits as its value: it has no sign, and up to 19 digits always fit 64 bits. It has no point in it.
use Rattle.std.proofs.Common.{◌≡◌, ℕ, ◌≤◌, ◌<◌, ◌^◌, ◌&&◌, ◌==◌, Bool, true, false, List, [], ◌∷◌, length, refl, ap, sym, arith, nat_lt, Some, None, if◌then◌else◌, Result, Ok, Err}
use Rattle.std.proofs.lemmas.Bool.Decides.{nat_tests}
use Rattle.std.proofs.lemmas.List.Elements.{All-from_recursion}
use Rattle.std.proofs.lemmas.Option.{cond_some}
use Rattle.std.proofs.lemmas.Str.Parse.{IsNumeralModel, numerals_by_value, tells_all_ascii_digits, digits_value_short, parse_digits}
use Rattle.std.specs.Char.{is_ascii_digit}
use Rattle.std.specs.List.{All, AllByRecursion, list_all}
use Rattle.std.specs.Result.{OkIff, result_ok}
use Rattle.std.specs.Str.{all_ascii_digits}
use Rattle.std.specs.Str.Parse.{digits_value, ParsesUnsigned}
use Rattle.ll_attr.specs.Numbers.{is_digits, number_in}

pub digits_model : IsNumeralModel (λ ds. all_ascii_digits ds ≡ true) (digits_value 10)
digits_model = numerals_by_value _ tells_all_ascii_digits

pub list_all-is_ascii_digit : (bs : List ℕ) → list_all is_ascii_digit bs ≡ all_ascii_digits bs
list_all-is_ascii_digit [] = refl
list_all-is_ascii_digit (b ∷ bs) = ap (λ rest. is_ascii_digit b && rest) (list_all-is_ascii_digit bs)

pub is_digits-parts : (most : ℕ) (text : List ℕ) → is_digits most text ≡ true → (0 < length text) × (length text ≤ most) × (all_ascii_digits text ≡ true)
is_digits-parts most text h = grind (arith, nat_tests)

parsed_cases : {E : Type 0} (most : ℕ) (text : List ℕ) (r : Result ℕ E) → is_digits most text ≡ true → OkIff r ((0 < length text) × (digits_value 10 text < 2 ^ 64)) (digits_value 10 text) → result_ok r ≡ number_in most text
parsed_cases most text (Ok n) h parsed = grind (arith, nat_tests)
parsed_cases most text (Err e) h parsed = grind (arith, nat_tests)

-- what `parse` returns of at most `most` digits
pub number_in-parsed : {E : Type 0} (most : ℕ) (text : List ℕ) (r : Result ℕ E) → is_digits most text ≡ true → ParsesUnsigned 64 10 text r → result_ok r ≡ number_in most text
number_in-parsed most text r h parsed =
    parsed_cases most text r h (parse_digits digits_model 64 text r parsed (is_digits-parts most text h).2)

pub number_in_some : (most : ℕ) (text : List ℕ) (n : ℕ) → Some n ≡ number_in most text → (is_digits most text ≡ true) × (digits_value 10 text ≡ n)
number_in_some most text n e =
    let p = cond_some (is_digits most text && nat_lt (digits_value 10 text) (2 ^ 64)) (digits_value 10 text) n (sym e) in
    (grind (arith, nat_tests), p.1)

pub number_in-lt : (most : ℕ) (text : List ℕ) (n : ℕ) → Some n ≡ number_in most text → n < 10 ^ most
number_in-lt most text n e =
    let p = number_in_some most text n e in
    let q = is_digits-parts most text p.0 in
    rw (← p.1) (digits_value_short digits_model text most q.2 q.1)

fits_64 : (most : ℕ) (text : List ℕ) → most ≤ 19 → is_digits most text ≡ true → nat_lt (digits_value 10 text) (2 ^ 64) ≡ true
fits_64 most text low h =
    let p = is_digits-parts most text h in
    let below : digits_value 10 text < 10 ^ 19 = digits_value_short digits_model text 19 p.2 (omega arith) in
    grind (arith, nat_tests)

both_first : (b c : Bool) → (b ≡ true → c ≡ true) → (b && c) ≡ b
both_first true c h = h refl
both_first false c h = refl

-- at most 19 digits are below 2^64
pub number_in-short : (most : ℕ) (text : List ℕ) → most ≤ 19 → number_in most text ≡ (if is_digits most text then Some (digits_value 10 text) else None)
number_in-short most text low =
    ap (λ b. if b then Some (digits_value 10 text) else None) (both_first (is_digits most text) _ (fits_64 most text low))

no_point_by_recursion : (ds : List ℕ) → all_ascii_digits ds ≡ true → AllByRecursion (λ b. (b == 46) ≡ false) ds
no_point_by_recursion [] h = tt
no_point_by_recursion (d ∷ ds) h = (grind (arith, nat_tests), no_point_by_recursion ds (grind (arith, nat_tests)))

pub no_point : (ds : List ℕ) → all_ascii_digits ds ≡ true → All (λ b. (b == 46) ≡ false) ds
no_point ds h = All-from_recursion (λ b. (b == 46) ≡ false) ds (no_point_by_recursion ds h)

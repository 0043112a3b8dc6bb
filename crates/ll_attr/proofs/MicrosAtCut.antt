-- What a text of seconds means, by where its first point cuts it: nowhere, or in two. After that point a second one leaves no digits.
use Rattle.std.proofs.Common.{◌≡◌, ℕ, ◌+◌, ◌-◌, ◌*◌, ◌<◌, ◌^◌, ◌==◌, ◌++◌, Bool, true, false, List, [], ◌∷◌, length, refl, ap, sym, ◌∙◌, arith, Option, Some, None}
use Rattle.std.proofs.lemmas.Bool.Decides.{nat_tests}
use Rattle.std.proofs.lemmas.List.Splits.{slice_split_none, slice_split_at, join_with_byte-slice_split, length-slice_split}
use Rattle.std.specs.List.{join_with_byte}
use Rattle.std.specs.Option.{option_map, option_and_then}
use Rattle.std.specs.Str.Parse.{digits_value}
use Rattle.ll_attr.specs.Durations.{micros_in, micros_of_parts}
use Rattle.ll_attr.specs.Numbers.{is_digits, number_in}
use Rattle.ll_attr.specs.Words.{pieces_at}
use Rattle.ll_attr.proofs.Digits.{is_digits-parts, number_in-short, no_point}
use Rattle.ll_attr.proofs.Fractions.{fraction_in}

abbrev pub is_point : ℕ → Bool
is_point b = b == 46

uncut_cases : (text : List ℕ) (r : Option ℕ) → r ≡ number_in 12 text → option_map (λ w. w * 1000000) r ≡ micros_of_parts (text ∷ [])
uncut_cases text None e = grind (arith, nat_tests, number_in-short)
uncut_cases text (Some w) e = grind (arith, nat_tests, number_in-short)

pub micros_in-uncut : (text : List ℕ) (r : Option ℕ) → pieces_at 46 text ≡ text ∷ [] → r ≡ number_in 12 text → option_map (λ w. w * 1000000) r ≡ micros_in text
micros_in-uncut text r alone e = uncut_cases text r e ∙ ap micros_of_parts (sym alone)

no_fraction : (whole fraction : List ℕ) (ps : List (List ℕ)) → join_with_byte 46 ps ≡ fraction → 0 < length ps → is_digits 6 fraction ≡ false → micros_of_parts (whole ∷ ps) ≡ None
no_fraction whole fraction [] e some bad = absurd (omega arith)
no_fraction whole fraction (x ∷ []) e some bad = grind (arith, nat_tests)
no_fraction whole fraction (x ∷ y ∷ more) e some bad = refl

-- a further point leaves the text no meaning, as it leaves no digits after the first point
pub one_cut : (whole fraction : List ℕ) (b : Bool) → is_digits 6 fraction ≡ b → micros_of_parts (whole ∷ pieces_at 46 fraction) ≡ micros_of_parts (whole ∷ fraction ∷ [])
one_cut whole fraction true h =
    ap (λ ps. micros_of_parts (whole ∷ ps)) (slice_split_none is_point fraction (no_point fraction (is_digits-parts 6 fraction h).2))
one_cut whole fraction false h =
    no_fraction whole fraction _ (join_with_byte-slice_split 46 fraction) (omega (arith, length-slice_split is_point fraction)) h
    ∙ grind (arith, nat_tests)

cut_cases : (whole fraction : List ℕ) (w f : Option ℕ) → w ≡ number_in 12 whole → f ≡ fraction_in fraction → option_and_then (λ x. option_map (λ y. x * 1000000 + y) f) w ≡ micros_of_parts (whole ∷ fraction ∷ [])
cut_cases whole fraction None f d e = grind (arith, nat_tests, number_in-short)
cut_cases whole fraction (Some x) None d e = grind (arith, nat_tests, number_in-short)
cut_cases whole fraction (Some x) (Some y) d e = grind (arith, nat_tests, number_in-short)

pub micros_in-cut : (text whole fraction : List ℕ) (w f : Option ℕ) → pieces_at 46 text ≡ whole ∷ pieces_at 46 fraction → w ≡ number_in 12 whole → f ≡ fraction_in fraction → option_and_then (λ x. option_map (λ y. x * 1000000 + y) f) w ≡ micros_in text
micros_in-cut text whole fraction w f in_two d e =
    cut_cases whole fraction w f d e ∙ sym (one_cut whole fraction _ refl) ∙ ap micros_of_parts (sym in_two)

-- a text that is put together of digits, a point and digits
pub micros_in-point : (whole fraction : List ℕ) → is_digits 12 whole ≡ true → is_digits 6 fraction ≡ true → micros_in (whole ++ (46 ∷ fraction)) ≡ Some (digits_value 10 whole * 1000000 + digits_value 10 fraction * 10 ^ (6 - length fraction))
micros_in-point whole fraction h k =
    ap micros_of_parts (slice_split_at is_point whole 46 fraction (no_point whole (is_digits-parts 12 whole h).2) refl)
    ∙ one_cut whole fraction true k
    ∙ grind (arith, nat_tests)

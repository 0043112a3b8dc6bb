-- What isn't short is no name and no value that means something.
use Rattle.std.proofs.Common.{◌≡◌, ℕ, List, true, false, None, refl, ◌∙◌, arith}
use Rattle.std.specs.Prelude.{bytes_eq, codes}
use Rattle.std.specs.Char.{is_ascii_digit}
use Rattle.std.specs.List.{list_all}
use Rattle.std.proofs.lemmas.Bool.{false_from_ne_true}
use Rattle.std.proofs.lemmas.Bool.Decides.{nat_tests}
use Rattle.std.proofs.lemmas.List.Sums.{AllPass-from_list_all, list_all-from_AllPass}
use Rattle.std.proofs.lemmas.Slice.Eq.{bytes_eq-Decides}
use Rattle.ll_attr.proofs.Digits.{is_digits-parts, list_all-is_ascii_digit}
use Rattle.ll_attr.specs.Numbers.{number_in, is_digits}
use Rattle.ll_directive.specs.Targets.{skip_in}
use Rattle.ll_directive.specs.Told.{is_plain, is_short}

pub no_word : (text word : List ℕ) → is_short word ≡ true → is_short text ≡ false → bytes_eq text word ≡ false
no_word text word short other =
    false_from_ne_true _ (λ same. let e : text ≡ word = (bytes_eq-Decides text word).0 same in absurd (cc))

plain_digits : (text : List ℕ) → list_all is_ascii_digit text ≡ true → list_all is_plain text ≡ true
plain_digits text digits =
    list_all-from_AllPass is_plain text (λ k d within. grind (arith, nat_tests, AllPass-from_list_all is_ascii_digit text digits k d within))

pub no_number : (text : List ℕ) → is_short text ≡ false → number_in 20 text ≡ None
no_number text other =
    let none : is_digits 20 text ≡ false =
    false_from_ne_true _ (λ digits. let p = is_digits-parts 20 text digits in
    let plain = plain_digits text (list_all-is_ascii_digit text ∙ p.2) in absurd (grind (arith, nat_tests)))
    in rw none refl

pub no_skip : (text : List ℕ) → is_short text ≡ false → skip_in text ≡ None
no_skip text other = rw (no_word text (codes "YES") refl other, no_word text (codes "v2") refl other) refl

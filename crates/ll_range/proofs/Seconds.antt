-- A number of seconds by where its first point cuts it: after that point a second one leaves no digits.
use Rattle.std.proofs.Common.{◌≡◌, ℕ, ◌&&◌, Bool, true, false, List, ◌∷◌, refl, ap, sym, ◌∙◌, length, nat_le}
use Rattle.std.specs.Str.{all_ascii_digits}
use Rattle.ll_attr.proofs.Digits.{list_all-is_ascii_digit}
use Rattle.ll_attr.specs.Words.{pieces_at}
use Rattle.ll_format.proofs.Separators.{last_part}
use Rattle.ll_range.specs.Attributes.{are_digits, seconds_of, is_seconds}

last_false : (a b : Bool) → b ≡ false → (a && b) ≡ false
last_false true b e = e
last_false false b e = refl

no_digits : (t : List ℕ) → all_ascii_digits t ≡ false → are_digits t ≡ false
no_digits t h = last_false (nat_le 1 (length t)) _ (list_all-is_ascii_digit t ∙ h)

fraction_last : (whole fraction : List ℕ) → seconds_of (whole ∷ pieces_at 46 fraction) ≡ (are_digits whole && are_digits fraction)
fraction_last whole fraction =
    last_part 46 refl (λ ps. seconds_of (whole ∷ ps)) (λ t. are_digits whole && are_digits t)
    (λ t. refl) (λ t u ts. refl) (λ t h. last_false (are_digits whole) (are_digits t) (no_digits t h)) fraction

pub seconds-cut : (text whole fraction : List ℕ) (a b : Bool) → pieces_at 46 text ≡ whole ∷ pieces_at 46 fraction
    → a ≡ are_digits whole → b ≡ are_digits fraction → (a && b) ≡ is_seconds text
seconds-cut text whole fraction a b parts e f =
    ap (λ x. x && b) e ∙ ap (λ x. are_digits whole && x) f ∙ sym (fraction_last whole fraction) ∙ ap seconds_of (sym parts)

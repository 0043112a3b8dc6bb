-- A text is cut at the first place of a byte.
use Rattle.std.proofs.Common.{◌≡◌, ◌≢◌, ℕ, zero, suc, ◌<◌, ◌==◌, not, List, [], ◌∷◌, length, get_or, take, drop, true, refl, ap, sym, ◌∙◌, arith}
use Rattle.std.proofs.lemmas.Bool.{and_from, eq-eqb, ne_eqb, not_from_false}
use Rattle.std.proofs.lemmas.List.{append-nil}
use Rattle.ll_format.specs.Format.{until, until_by}
use Rattle.ll_format.proofs.FormatLaws.{lacks, until_again}

nowhere : (c : ℕ) (text : List ℕ) → ((i : ℕ) → i < length text → get_or text i 0 ≢ c) → lacks c text ≡ true
nowhere c [] h = refl
nowhere c (b ∷ bs) h =
    and_from (not (b == c)) (lacks c bs) (not_from_false (b == c) (ne_eqb b c (h 0 (omega arith)))) (nowhere c bs (λ i l. h (suc i) (omega (arith, l))))

pub until_none : (c : ℕ) (text : List ℕ) → ((i : ℕ) → i < length text → get_or text i 0 ≢ c) → until c text ≡ (text, [])
until_none c text h = ap (until c) (sym (append-nil text)) ∙ until_again c text [] (nowhere c text h) refl

pub until_some : (c : ℕ) (text : List ℕ) (k : ℕ) → k < length text → get_or text k 0 ≡ c → ((i : ℕ) → i < k → get_or text i 0 ≢ c)
    → until c text ≡ (take k text, drop k text)
until_some c [] k within is before = absurd (omega (arith, within))
until_some c (b ∷ bs) zero within is before = ap (λ t. until_by t b bs (until c bs)) (eq-eqb b c is)
until_some c (b ∷ bs) (suc k) within is before =
    ap (λ t. until_by t b bs (until c bs)) (ne_eqb b c (before 0 (omega arith)))
    ∙ ap (λ (m : List ℕ × List ℕ). (b ∷ m.0, m.1)) (until_some c bs k (omega (arith, within)) is (λ i l. before (suc i) (omega (arith, l))))

pub until_split : (c : ℕ) (text : List ℕ) (k : ℕ) (front rest : List ℕ) → k < length text → get_or text k 0 ≡ c → ((i : ℕ) → i < k → get_or text i 0 ≢ c)
    → front ≡ take k text → rest ≡ drop k text → until c text ≡ (front, rest)
until_split c text k front rest within is before f r =
    until_some c text k within is before ∙ ap (λ x. (x, drop k text)) (sym f) ∙ ap (λ y. (front, y)) (sym r)

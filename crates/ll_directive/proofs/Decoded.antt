-- A `+` is a space: if what a name or a value decodes to has neither, it is what the escapes alone decode to.
use Rattle.std.proofs.Common.{◌≡◌, ℕ, ◌*◌, ◌+◌, ◌==◌, ◌⊎◌, List, [], ◌∷◌, ◌++◌, Bool, true, false, ◌&&◌, cond, inl, inr, ⊎_elim, refl, ap, sym, subst, ◌∙◌, length, arith, length-append}
use Rattle.std.specs.Prelude.{nat_lt}
use Rattle.std.specs.Char.{digit_value}
use Rattle.std.specs.List.{list_all}
use Rattle.std.proofs.lemmas.Bool.{cases_eq, ne_eqb}
use Rattle.std.proofs.lemmas.Bool.Decides.{nat_tests}
use Rattle.std.proofs.lemmas.List.Folds.{list_all-append}
use Rattle.form_urlencoded.specs.Form.{decode, plus_to_space}
use Rattle.percent_encoding.specs.Percent.{is_escape, percent_decode}
use Rattle.ll_directive.specs.Told.{is_plain, is_short}

-- equal, or each with a byte that isn't plain
abbrev IsSame : List ℕ → List ℕ → Type 0
IsSame xs ys = (xs ≡ ys) ⊎ ((list_all is_plain xs ≡ false) × (list_all is_plain ys ≡ false))

plus_cases : (P : ℕ → ℕ → Type 0) → P 43 32 → ((b : ℕ) → P b b) → (b : ℕ) → P b (plus_to_space b)
plus_cases P plus other b =
    ⊎_elim (λ e. subst (λ x. P x (plus_to_space x)) (sym e) plus) (λ n. rw (ne_eqb b 43 n) (other b)) (cases_eq b 43)

digit_kept : (b : ℕ) → digit_value (plus_to_space b) ≡ digit_value b
digit_kept b = plus_cases (λ b c. digit_value c ≡ digit_value b) refl (λ b. refl) b

percent_kept : (b : ℕ) → (plus_to_space b == 37) ≡ (b == 37)
percent_kept b = plus_cases (λ b c. (c == 37) ≡ (b == 37)) refl (λ b. refl) b

and_false : (a b : Bool) → b ≡ false → (a && b) ≡ false
and_false a b e = grind (arith, nat_tests)

same_cons : (b : ℕ) (xs ys : List ℕ) → IsSame xs ys → IsSame (b ∷ xs) (b ∷ ys)
same_cons b xs ys = ⊎_elim (λ e. inl (ap (λ l. b ∷ l) e)) (λ f. inr (and_false _ _ f.0, and_false _ _ f.1))

same_first : (b : ℕ) (xs ys : List ℕ) → IsSame xs ys → IsSame (b ∷ xs) (plus_to_space b ∷ ys)
same_first b xs ys same = plus_cases (λ b c. IsSame (b ∷ xs) (c ∷ ys)) (inr (refl, refl)) (λ b. same_cons b xs ys same) b

same_decoded : (raw : List ℕ) → IsSame (percent_decode raw) (decode raw)
unfolding percent_decode
same_decoded [] = inl refl
same_decoded (b ∷ []) = same_first b [] [] (inl refl)
same_decoded (b ∷ c ∷ []) = same_first b _ _ (same_first c [] [] (inl refl))
same_decoded (b ∷ high ∷ low ∷ rest) =
    let escaped = same_cons (16 * digit_value high + digit_value low) _ _ (same_decoded rest) in
    let kept = same_first b _ _ (same_decoded (high ∷ low ∷ rest)) in
    rw (percent_kept b, digit_kept high, digit_kept low)
    (elim (is_escape b high low) as (λ t. IsSame (cond t ((16 * digit_value high + digit_value low) ∷ percent_decode rest) (b ∷ percent_decode (high ∷ low ∷ rest))) (cond t ((16 * digit_value high + digit_value low) ∷ decode rest) (plus_to_space b ∷ decode (high ∷ low ∷ rest)))) [
      | true ↦ escaped
      | false ↦ kept
    ])

pub decoded-plain : (raw text : List ℕ) → text ≡ percent_decode raw → list_all is_plain text ≡ true → text ≡ decode raw
decoded-plain raw text e plain = ⊎_elim (λ same. e ∙ same) (λ f. absurd (cc)) (same_decoded raw)

cut : (done rest : List ℕ) (b : ℕ) → (nat_lt (length done) 20 && is_plain b) ≡ false → is_short (done ++ b ∷ rest) ≡ false
cut done rest b other = rw list_all-append (simp length-append (grind (arith, nat_tests)))

-- a byte that isn't plain, or the twenty-first
pub decoded-cut : (raw done rest : List ℕ) (b : ℕ) → done ++ b ∷ rest ≡ percent_decode raw → (nat_lt (length done) 20 && is_plain b) ≡ false → is_short (decode raw) ≡ false
decoded-cut raw done rest b e other =
    ⊎_elim (λ same. subst (λ xs. is_short xs ≡ false) (e ∙ same) (cut done rest b other)) (λ f. rw f.1 refl) (same_decoded raw)

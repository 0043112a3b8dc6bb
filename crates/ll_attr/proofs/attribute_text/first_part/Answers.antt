-- The cut is before an ASCII byte or at the end, and the comma is taken off what follows it.
use Rattle.std.proofs.Common.{◌≡◌, ◌≢◌, ◌∙◌, ap, ℕ, false, lit<, List, [], ◌∷◌, take, drop, sym, arith, Option, Some, None, MatchOption, Bor}
use Rattle.std.proofs.lemmas.Str.Pattern.{strip_prefix_char}
use Rattle.std.specs.Str.{IsCharBoundary}
use Rattle.ll_attr.specs.Attributes.{parts_outside}
use Rattle.ll_attr.specs.Reading.{part_len}
use Rattle.ll_attr.proofs.PartsOutside.{part_len-le, part_len-comma, cut_none, cut_some}
use Rattle.ll_attr.proofs.attribute_text.first_part.Goals as goal

boundary : (text : List ℕ) (n : ℕ) → n ≡ part_len false text → IsCharBoundary text n
boundary text n e = rw e (
    let comma = part_len-comma text in
    let le = part_len-le false text in
    (le, λ h high. absurd (omega (arith, comma h))))

cut_parts : (text part after : List ℕ) (n : ℕ) (r : Option (Bor (List ℕ))) → n ≡ part_len false text → part ≡ take n text → after ≡ drop n text
    → MatchOption r ((rest : List ℕ) → after ≢ 44 ∷ rest) (λ x. after ≡ 44 ∷ x.now)
    → MatchOption r (parts_outside false text ≡ part ∷ []) (λ x. parts_outside false text ≡ part ∷ parts_outside false x.now)
cut_parts text part after n None e front back h =
    cut_none text after (back ∙ ap (λ k. drop k text) e) h ∙ ap (λ p. p ∷ []) (ap (λ k. take k text) (sym e) ∙ sym front)
cut_parts text part after n (Some x) e front back h =
    cut_some text after x.now (back ∙ ap (λ k. drop k text) e) h ∙ ap (λ p. p ∷ parts_outside false x.now) (ap (λ k. take k text) (sym e) ∙ sym front)

pub split_at-requires : goal.split_at-requires
split_at-requires c = boundary c.args.text.now c.part_len.result c.part_len.ensures

pub returns-clause-parts : goal.returns-clause-parts
returns-clause-parts c =
    let s = c.split_at in
    cut_parts c.args.text.now s.result.0.now s.result.1.now c.part_len.result c.strip_prefix.result c.part_len.ensures s.ensures.front s.ensures.back
    (strip_prefix_char 44 s.result.1.now c.strip_prefix.result c.strip_prefix.ensures.cases (lit< tt))

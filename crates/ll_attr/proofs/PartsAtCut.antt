-- The parts of a text that `split_once` cuts at its first separator.
use Rattle.std.proofs.Common.{◌≡◌, ℕ, ◌<◌, ◌==◌, List, [], ◌∷◌, length, MatchOption, Bor, ap, sym, ◌∙◌, false, arith, Option, Some, None}
use Rattle.std.proofs.lemmas.List.Elements.{All-from_get_or}
use Rattle.std.proofs.lemmas.List.Splits.{slice_split_none, slice_split_first}
use Rattle.std.proofs.lemmas.List.Sums.{fails_before_first}
use Rattle.std.specs.List.{All, position_or_len, before_first, after_first}
use Rattle.ll_attr.specs.Words.{pieces_at}

-- a text without a separator is its one part
parts_at-uncut : (c : ℕ) (text : List ℕ) → position_or_len (λ b. b == c) text ≡ length text → pieces_at c text ≡ text ∷ []
parts_at-uncut c text e =
    let none : All (λ b. (b == c) ≡ false) text =
    All-from_get_or (λ b. (b == c) ≡ false) text 0 (λ i h. fails_before_first (λ b. b == c) text i 0 (omega arith))
    in slice_split_none (λ b. b == c) text none

pub parts_at-cut : (c : ℕ) (text : List ℕ) (r : Option (Bor (List ℕ) × Bor (List ℕ)))
    → MatchOption r (position_or_len (λ b. b == c) text ≡ length text)
    (λ x. (position_or_len (λ b. b == c) text < length text) × (x.0.now ≡ before_first (λ b. b == c) text) × (x.1.now ≡ after_first (λ b. b == c) text))
    → MatchOption r (pieces_at c text ≡ text ∷ []) (λ x. pieces_at c text ≡ x.0.now ∷ pieces_at c x.1.now)
parts_at-cut c text None h = parts_at-uncut c text h
parts_at-cut c text (Some x) h =
    let before = h.1 in
    let after = h.2 in
    slice_split_first (λ b. b == c) text c h.0 ∙ ap (λ w. w ∷ pieces_at c (after_first (λ b. b == c) text)) (sym before) ∙ ap (λ w. x.0.now ∷ pieces_at c w) (sym after)

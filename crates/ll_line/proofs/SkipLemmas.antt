-- Ids that are joined by tabs follow from their text.
use Rattle.std.proofs.Common.{◌≡◌, ℕ, List, [], ◌∷◌, ◌++◌, Some, ap, sym, ◌∙◌, codes, decimal, append_assoc}
use Rattle.std.proofs.lemmas.List.{append-nil}
use Rattle.std.specs.List.{flat_map, join_with_byte}
use Rattle.ll_format.specs.Words.{cut_at}
use Rattle.ll_format.proofs.SeparatedLaws.{joined_again}
use Rattle.ll_line.specs.Formats.{name, SkippedTag}
use Rattle.ll_line.specs.Line.{Skip, Skipped}
use Rattle.ll_line.specs.Text.{line_text}

abbrev with_ids : ℕ → List (List ℕ) → Skip
with_ids n ids = record { count = n; removed = Some ids }

-- ids that are joined by tabs follow from their text
pub ids_told : (n : ℕ) (ids : List (List ℕ)) → line_text (Skipped (with_ids n (cut_at 9 (join_with_byte 9 ids)))) ≡ line_text (Skipped (with_ids n ids))
unfolding line_text
ids_told n ids =
    ap (λ text. (name SkippedTag ++ (58 ∷ ((codes "SKIPPED-SEGMENTS=" ++ decimal n) ++ (codes ",RECENTLY-REMOVED-DATERANGES=\"" ++ (text ++ codes "\""))))) ++ codes "\n")
    (joined_again 9 (join_with_byte 9 ids))

after_tabs : (id : List ℕ) (ids : List (List ℕ)) → join_with_byte 9 (id ∷ ids) ≡ id ++ flat_map (λ id. 9 ∷ id) ids
after_tabs id [] = sym (append-nil id)
after_tabs id (next ∷ ids) = ap (λ text. id ++ (9 ∷ text)) (after_tabs next ids)

-- a text with the first id, and then with the others, has all of them
pub pushed : (old first_pushed whole first : List ℕ) (more ids : List (List ℕ)) → ids ≡ first ∷ more → first_pushed ≡ old ++ first
    → whole ≡ first_pushed ++ flat_map (λ id. 9 ∷ id) more → whole ≡ old ++ join_with_byte 9 ids
pushed old first_pushed whole first more ids is one all =
    all ∙ ap (λ text. text ++ flat_map (λ id. 9 ∷ id) more) one ∙ append_assoc old first (flat_map (λ id. 9 ∷ id) more)
    ∙ ap (λ text. old ++ text) (sym (after_tabs first more)) ∙ ap (λ xs. old ++ join_with_byte 9 xs) (sym is)

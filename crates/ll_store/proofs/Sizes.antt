-- How many bytes parts have together.
use Rattle.std.proofs.Common.{◌≡◌, ℕ, ◌+◌, List, [], ◌∷◌, ◌++◌, ap, sym, ◌∙◌, append-nil, append_assoc, length, length-append}
use Rattle.std.specs.List.{concat}

pub concat-snoc : (parts : List (List ℕ)) (part : List ℕ) → concat (parts ++ part ∷ []) ≡ concat parts ++ part
concat-snoc [] part = append-nil part
concat-snoc (p ∷ parts) part = ap (λ bytes. p ++ bytes) (concat-snoc parts part) ∙ sym (append_assoc p (concat parts) part)

pub concat_one : (part : List ℕ) → concat (part ∷ []) ≡ part
concat_one part = append-nil part

pub size_grown : (parts : List (List ℕ)) (part : List ℕ) → length (concat (parts ++ part ∷ [])) ≡ length (concat parts) + length part
size_grown parts part = ap length (concat-snoc parts part) ∙ length-append (concat parts) part

-- The words of a text, joined again, are the text.
use Rattle.std.proofs.Common.{◌≡◌, ℕ, ◌+◌, ◌==◌, List, [], ◌∷◌, length, refl, arith}
use Rattle.std.proofs.lemmas.List.Splits.{length-slice_split, join_with_byte-slice_split}
use Rattle.ll_attr.specs.Words.{pieces_at, words, joined}

pub joined_words : (text : List ℕ) → joined (words text) ≡ text
joined_words text = join_with_byte-slice_split 32 text

first_of : (parts : List (List ℕ)) (n : ℕ) → length parts ≡ n + 1 → (part : List ℕ) × (more : List (List ℕ)) × (parts ≡ part ∷ more)
first_of [] n e = absurd (omega arith)
first_of (part ∷ more) n e = (part, more, refl)

-- a text has at least one piece
pub some_piece : (separator : ℕ) (text : List ℕ) → (piece : List ℕ) × (more : List (List ℕ)) × (pieces_at separator text ≡ piece ∷ more)
some_piece separator text = first_of _ _ (length-slice_split (λ b. b == separator) text)

pub some_word : (text : List ℕ) → (word : List ℕ) × (more : List (List ℕ)) × (words text ≡ word ∷ more)
some_word text = some_piece 32 text

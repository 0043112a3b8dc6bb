-- The word that ends the line of an item with bytes: their number, or in a script the bytes themselves.
use Rattle.std.specs.Prelude.{ℕ, List, [], ◌∷◌, Bool, false, Option, Some, None, bytes_eq, codes, if◌then◌else◌, option_map}
use Rattle.ll_attr.specs.Numbers.{number_in}
use Rattle.ll_attr.specs.Words.{joined, words}

-- whether the words are those of an item line after which one more word is about its bytes: `init RENDITION` or
-- `part RENDITION MICROSECONDS FLAGS`
abbrev pub has_bytes : List (List ℕ) → Bool
has_bytes (kind ∷ rendition ∷ []) = bytes_eq kind (codes "init")
has_bytes (kind ∷ rendition ∷ duration ∷ flags ∷ []) = bytes_eq kind (codes "part")
has_bytes other = false

-- whether the words are those of an initialization section's line without the word about its bytes
abbrev pub lacks_length : List (List ℕ) → Bool
lacks_length (kind ∷ rendition ∷ []) = bytes_eq kind (codes "init")
lacks_length other = false

-- the words before the last one, and the last one
abbrev pub split_last : List (List ℕ) → Option (List (List ℕ) × List ℕ)
split_last [] = None
split_last (word ∷ []) = Some ([], word)
split_last (word ∷ next ∷ more) = option_map (λ s. (word ∷ s.0, s.1)) (split_last (next ∷ more))

abbrev pub cut_by : Option (List (List ℕ) × List ℕ) → Option (List ℕ × List ℕ)
cut_by None = None
cut_by (Some ([], last)) = None
cut_by (Some (word ∷ more, last)) = Some (joined (word ∷ more), last)

-- what stands before the last space of a line, and the word after it; none if the line has no space
abbrev pub cut_last : List ℕ → Option (List ℕ × List ℕ)
cut_last line = cut_by (split_last (words line))

abbrev pub told_by : Option (List ℕ × List ℕ) → Option (List ℕ × List ℕ)
told_by None = None
told_by (Some (item, last)) = if has_bytes (words item) then Some (item, last) else None

-- the line of an item with bytes, and the word after it; none if the line isn't that
abbrev pub told_bytes : List ℕ → Option (List ℕ × List ℕ)
told_bytes line = told_by (cut_last line)

abbrev pub announced_by : Option (List ℕ × List ℕ) → Option (List ℕ × ℕ)
announced_by None = None
announced_by (Some (item, word)) = option_map (λ n. (item, n)) (number_in 20 word)

-- the line of an item with bytes, and their number, which is the line's last word; none if the line isn't that
abbrev pub announced : List ℕ → Option (List ℕ × ℕ)
announced line = announced_by (told_bytes line)

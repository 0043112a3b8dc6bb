-- The words of a line, and what follows a key.
use Rattle.std.specs.Prelude.{ℕ, List, Option, Some, None, ◌==◌, drop, length, nat_eq, if◌then◌else◌}
use Rattle.std.specs.List.{join_with_byte, slice_split, starts_with}

-- the pieces of a text between bytes `separator`, such as spaces or commas
abbrev pub pieces_at : ℕ → List ℕ → List (List ℕ)
pieces_at separator text = slice_split (λ b. b == separator) text

-- the words of a text, which are separated by one space
abbrev pub words : List ℕ → List (List ℕ)
words text = pieces_at 32 text

-- words joined by single spaces
abbrev pub joined : List (List ℕ) → List ℕ
joined words = join_with_byte 32 words

-- what follows `key`, if `text` begins with it
abbrev pub after : List ℕ → List ℕ → Option (List ℕ)
after key text = if starts_with nat_eq text key then Some (drop (length key) text) else None

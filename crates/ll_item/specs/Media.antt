-- The bytes of items.
use Rattle.std.specs.Prelude.{◌≡◌, ◌≢◌, ℕ, List, [], Option, None, Some, length, replicate}

-- the largest number of bytes of an item
abbrev pub media_limit : ℕ
media_limit = 1048576

-- `n` zeros, which stand for bytes of which only the number is known
abbrev pub zeros : ℕ → List ℕ
zeros n = replicate n 0

-- bytes of which only the number is known: zeros, at least one
abbrev pub IsNumberAlone : List ℕ → Type 0
IsNumberAlone bytes = (bytes ≡ zeros (length bytes)) × (bytes ≢ [])

-- the bytes of a block, which is missing if there are none
abbrev pub held : Option (List ℕ) → List ℕ
held None = []
held (Some bytes) = bytes

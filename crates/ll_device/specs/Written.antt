-- What was written since a base.
use Rattle.std.specs.Prelude.{◌≡◌, ℕ, List, ◌++◌, Option}
use Rattle.std.specs.Io.KnownBytes.{Appends}

-- a prefix of `text` was written since `base`
abbrev pub AppendsPrefix : Option (List ℕ) → Option (List ℕ) → List ℕ → Type 0
AppendsPrefix base written text = (prefix : List ℕ) × (rest : List ℕ) × (text ≡ prefix ++ rest) × Appends base written prefix

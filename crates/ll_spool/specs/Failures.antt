-- How many calls of a disk have failed.
use Rattle.std.specs.Prelude.{◌≤◌, ◌<◌, ◌⊎◌, ℕ}

-- no more failed calls are counted
abbrev pub most_failures : ℕ
most_failures = 18446744073709551615

-- the count of failed calls has risen, or has come to its end
unfoldable pub HasRisen : ℕ → ℕ → Type 0
HasRisen old new = (old < new) ⊎ (most_failures ≤ new)

-- The answers of a session that weren't sent yet.
use Rattle.std.specs.Prelude.{ℕ, ◌-◌, List, [], ◌∷◌, nat_le, length, drop, if◌then◌else◌}

-- what is left of answers after their first `n` bytes were sent: those that were sent whole are gone, and the next has lost its first bytes
abbrev pub unsent : ℕ → List (List ℕ) → List (List ℕ)
unsent n [] = []
unsent n (a ∷ answers) = if nat_le (length a) n then unsent (n - length a) answers else drop n a ∷ answers

-- How often a connection was read, and what came, if its link says so.
use Rattle.std.specs.Prelude.{◌≡◌, ◌≤◌, ℕ, List}
use Rattle.ll_device.specs.Inward.{Inward, looked_at}

-- it was read at most `most` times
abbrev pub IsReadWithin : Inward → Inward → ℕ → Type 0
IsReadWithin before after most = (reads : ℕ) × (ends : ℕ) × (came : List ℕ) × (reads ≤ most) × (after ≡ looked_at reads ends came before)

-- it was read `reads` times, and was not found to have been ended by its other end
abbrev pub IsReadThrough : Inward → Inward → ℕ → Type 0
IsReadThrough before after reads = (came : List ℕ) × (after ≡ looked_at reads 0 came before)

-- it was read once, and was perhaps found to have been ended by its other end
abbrev pub IsReadOnce : Inward → Inward → Type 0
IsReadOnce before after = (ends : ℕ) × (came : List ℕ) × (after ≡ looked_at 1 ends came before)

-- it was read, and then, not before, its other end was found to have ended it
abbrev pub HasEnded : Inward → Inward → Type 0
HasEnded before after = (reads : ℕ) × (came : List ℕ) × (after ≡ looked_at reads 1 came before)

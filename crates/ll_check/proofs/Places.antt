-- The position of what is kept.
use Rattle.std.proofs.Common.{◌≡◌, ℕ, List, Option, Some, None, true, false, refl, sym, subst, true≢false, ◌∙◌}
use Rattle.ll_check.specs.Found.{AreKept, ChainValue, IsAt, IsOf, is_inside}
use Rattle.ll_entry.specs.Chain.{Between, Chain, Inside, Position}

-- no chunk has come
pub first-at : (kept : Option ChainValue) → kept ≡ None → IsAt kept (Between None)
first-at kept none = subst (λ k. IsAt k (Between None)) (sym none) (record { chains = tt; inside = refl })

-- what is kept of the chain of a chunk
pub of-inside : (k : ChainValue) (ch : Chain) → IsAt (Some k) (Inside ch) → IsOf k ch
of-inside k ch at = at.chains

-- what holds between chunks, or inside of one, holds where the checker is
pub between-only : (P : Position → List ℕ → Type 0) (kept : Option ChainValue) → is_inside kept ≡ false
    → ((before : Option Chain) (more : List ℕ) → AreKept kept before → P (Between before) more) → (p : Position) (more : List ℕ) → IsAt kept p → P p more
between-only P kept outside h (Between before) more at = h before more at.chains
between-only P kept outside h (Inside ch) more at = absurd (true≢false (sym at.inside ∙ outside))

pub inside-only : (P : Position → List ℕ → Type 0) (kept : Option ChainValue) → is_inside kept ≡ true
    → ((ch : Chain) (more : List ℕ) → IsAt kept (Inside ch) → P (Inside ch) more) → (p : Position) (more : List ℕ) → IsAt kept p → P p more
inside-only P kept inside h (Between before) more at = absurd (true≢false (sym inside ∙ at.inside))
inside-only P kept inside h (Inside ch) more at = h ch more at

-- What a sink has taken.
use Rattle.std.specs.Prelude.{◌≡◌, ℕ, ⊤, List, [], ◌∷◌, ◌++◌, Option, Some, None}
use Rattle.ll_record.specs.Chunk.{ChunkValue}

-- a chunk of the channel at `place`
pub record TakenChunk : Type 0 where
  pub place : ℕ
  pub chunk : ChunkValue

-- if it is known what a sink took, it has taken this chunk once more, and nothing else
abbrev pub Takes : Option (List TakenChunk) → Option (List TakenChunk) → ℕ → ChunkValue → Type 0
Takes None after place chunk = ⊤
Takes (Some before) None place chunk = ⊥
Takes (Some before) (Some after) place chunk = after ≡ before ++ record { place = place; chunk = chunk } ∷ []

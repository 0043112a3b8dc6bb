-- The bytes between two fragments of the governing track.
use Rattle.std.specs.Prelude.{ℕ, ◌+◌, ◌-◌, ◌*◌, Bool, true, false, List, [], ◌∷◌, ◌++◌, length, nat_lt, position, Option, Some, None}
use Rattle.std.specs.Option.{unwrap_or}
use Rattle.ll_runs.specs.Times.{is_nearer}
use Rattle.ll_parts.specs.declared.others.Other.{Other}

abbrev pub bytes_of : List Other → List ℕ
bytes_of [] = []
bytes_of (other ∷ others) = other.bytes ++ bytes_of others

-- ---- which of those between two fragments go with the second, if a run ends between them

abbrev pub leads : ℕ → ℕ → ℕ → Other → Bool
leads scale first second other = is_nearer scale first second other.decode_time

-- the number of elements that go with the first: all, unless the run ends between the two
abbrev pub stay : Bool → (Other → Bool) → List Other → ℕ
stay false leads others = length others
stay true leads others = unwrap_or (position leads others) (length others)

-- For private contracts: the lines of segments, one after another, with the map that is in force.
use Rattle.std.specs.Prelude.{ℕ, List, [], ◌∷◌, ◌++◌, Bool, true, false, ◌||◌, Option, None, map, take, drop, flat_map}
use Rattle.ll_line.specs.Line.{Line}
use Rattle.ll_line.specs.Playlist.{Finished}
use Rattle.ll_line.specs.Spelling.{segment_lines}
use Rattle.ll_apply.specs.Applied.{in_force, mapped, or_else, with_map, without_parts}

-- the map in force after segments, if `before` is in force before them
abbrev pub force_after : Option (List ℕ) → List Finished → Option (List ℕ)
force_after before [] = before
force_after before (s ∷ more) = force_after (or_else s.block.map before) more

abbrev pub map_if : Bool → Option (List ℕ) → Option (List ℕ)
map_if true uri = uri
map_if false uri = None

-- a segment with its parts or without them
abbrev pub shown : Bool → Finished → Finished
shown true s = s
shown false s = without_parts s

-- the lines of segments, if the map `before` is in force before them: a MAP line stands at the first one, if that leads, and at each broken one
-- (section 4.4.4.5)
abbrev pub lines_from : Bool → Option (List ℕ) → List Finished → List Line
lines_from leads before [] = []
lines_from leads before (s ∷ more) =
    segment_lines (with_map (map_if (leads || s.block.broken) (or_else s.block.map before)) s) ++ lines_from false (or_else s.block.map before) more

-- the lines of kept segments, without their parts, and then of others, if the map `before` is in force before them
abbrev pub both_lines : Option (List ℕ) → List Finished → List Finished → List Line
both_lines before [] own = lines_from true None own
both_lines before (s ∷ kept) own =
    lines_from true before (map without_parts (s ∷ kept)) ++ lines_from false (force_after before (s ∷ kept)) own

-- the lines of `count` segments from the place `from` on, without their parts, and then of others, as the definition has them
abbrev pub both : ℕ → ℕ → List Finished → List Finished → List Line
both from count base own = flat_map segment_lines (mapped (in_force None (map without_parts (take count (drop from (in_force None base))) ++ own)))

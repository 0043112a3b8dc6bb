-- Media Sequence Numbers and Part Indexes of all parts, counted one part after another (section 4.4.4.9).
use Rattle.std.specs.Prelude.{◌≡◌, ℕ, ◌+◌, List, [], ◌∷◌, ◌++◌, Bool, Option, Some, None, if◌then◌else◌}
use Rattle.ll_item.specs.declared.part.Part.{Part}
use Rattle.ll_window.specs.declared.part_position.PartPosition.{PartPosition}
use Rattle.ll_window.specs.Rows.{Row, rows}
use Rattle.ll_window.specs.Segments.{split, finished_by, unfinished_by}

pub record NumberedPart : Type 0 where
  pub number : ℕ
  pub index : ℕ
  pub part : Part

-- A part after one that finishes its segment has the next number and index 0; any other has the same number and the next index
-- (rules 6 and 7).
abbrev pub numbered_parts : ℕ → ℕ → List Part → List NumberedPart
numbered_parts number index [] = []
numbered_parts number index (p ∷ ps) =
    (record { number = number; index = index; part = p })
    ∷ (if p.finish then numbered_parts (number + 1) 0 ps else numbered_parts number (index + 1) ps)

-- the parts of one segment, with their places
abbrev pub placed : ℕ → ℕ → List Part → List NumberedPart
placed number index [] = []
placed number index (p ∷ ps) = (record { number = number; index = index; part = p }) ∷ placed number (index + 1) ps

-- the parts of these rows and then of the open segment, with their places
abbrev pub placed_rows : List Row → ℕ → List Part → List NumberedPart
placed_rows [] next open_parts = placed next 0 open_parts
placed_rows (row ∷ more) next open_parts = placed row.segment.number 0 row.parts ++ placed_rows more next open_parts

-- the Media Sequence Number after those of these segments, the first of which has `number`
abbrev pub number_after : ℕ → List (List Part) → ℕ
number_after number [] = number
number_after number (segment ∷ segments) = number_after (number + 1) segments

-- The numbers of segments and the places of their parts are the numbers and indexes of the parts counted one by one.
abbrev pub NumbersLaw : Type 0
NumbersLaw = (first maps time : ℕ) (has_ended : Bool) (ps : List Part)
    → placed_rows (rows first maps time (finished_by has_ended (split ps))) (number_after first (finished_by has_ended (split ps))) (unfinished_by has_ended (split ps))
    ≡ numbered_parts first 0 ps

-- the position of the last of these parts, if there is one (rule 15)
abbrev pub last_place : List NumberedPart → Option PartPosition
last_place [] = None
last_place (p ∷ []) = Some (record { number = p.number; index = p.index })
last_place (p ∷ q ∷ more) = last_place (q ∷ more)

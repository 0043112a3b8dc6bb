-- The durations of published segments, by their pieces alone.
use Rattle.std.specs.Prelude.{◌≡◌, ◌≤◌, ◌<◌, ℕ, ◌+◌, ◌==◌, List, [], ◌∷◌, Bool, true, false, if◌then◌else◌}
use Rattle.ll_parts.specs.Stream.{published}
use Rattle.ll_runs.specs.declared.lengths.Lengths.{Lengths}
use Rattle.ll_parts.specs.declared.pieces.MediaPart.{MediaPart}
use Rattle.ll_parts.specs.declared.pieces.Piece.{Piece}
use Rattle.ll_parts.specs.declared.pieces.Piece.TheVariants.{Begin, Init, Media, Finish, Break}
use Rattle.ll_part_laws.specs.Laws.{longest}

-- the segment of the part before: the sum of its parts' durations, the number of those that last one microsecond, and whether the part before is its
-- last
pub record Sum : Type 0 where
  pub durations : ℕ
  pub least : ℕ
  pub ended : Bool

-- the sum at the beginning of a run
abbrev pub no_sum : Sum
no_sum = record { durations = 0; least = 0; ended = true }

abbrev pub least_of : MediaPart → ℕ
least_of part = if part.duration == 1 then 1 else 0

abbrev pub with_part : Sum → MediaPart → Sum
with_part s part = record {
  durations = if s.ended then part.duration else s.durations + part.duration;
  least = if s.ended then least_of part else s.least + least_of part;
  ended = part.finishes;
}

-- A part of one microsecond can be one microsecond longer than its fragments, and a part that begins with a fragment of less than a microsecond can
-- make its segment longer by a part.
abbrev pub IsFitting : Lengths → Sum → Type 0
IsFitting lengths s = s.durations ≤ longest lengths + lengths.part + s.least

-- a segment of a run begins independent, unless the one before it would have been too long with the part
abbrev pub IsBegun : Lengths → Bool → Sum → MediaPart → Type 0
IsBegun lengths begins s part = begins ≡ false → s.ended ≡ true → part.independent ≡ false → lengths.most < s.durations + part.duration

-- and the one before it is as long as `lengths` say, unless it would have been too long
abbrev pub IsLong : Lengths → Bool → Sum → MediaPart → Type 0
IsLong lengths begins s part = begins ≡ false → s.ended ≡ true → s.durations < lengths.segment → lengths.most < s.durations + part.duration

-- the pieces after a sum, at the beginning of a run or not: each segment ends with its last part, and nothing else ends one
abbrev pub AreFitting : Lengths → Bool → Sum → List Piece → Type 0
AreFitting lengths begins s [] = s.ended ≡ true
AreFitting lengths begins s (Begin section ∷ later) = (s.ended ≡ true) × AreFitting lengths true no_sum later
AreFitting lengths begins s (Init section ∷ later) = AreFitting lengths begins s later
AreFitting lengths begins s (Media part ∷ later) =
    IsBegun lengths begins s part × IsLong lengths begins s part × IsFitting lengths (with_part s part) × AreFitting lengths false (with_part s part) later
AreFitting lengths begins s (Finish ∷ later) = ⊥
AreFitting lengths begins s (Break since ∷ later) = (s.ended ≡ true) × AreFitting lengths true no_sum later

-- If parts wait for the fragment after them, the durations of a segment's parts sum to no more than the longest segment allows; each segment ends,
-- and begins independent unless that was forced.
abbrev pub SegmentsFit : Type 0
SegmentsFit = (lengths : Lengths) (end : ℕ) (input : List ℕ) → lengths.ahead ≡ true → AreFitting lengths true no_sum (published lengths end input).pieces

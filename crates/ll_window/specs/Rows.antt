-- Segments with their parts: numbers, times and durations.
use Rattle.std.specs.Prelude.{ℕ, ◌+◌, ◌*◌, List, [], ◌∷◌, Bool, true, false, Option, Some, None, sum_by}
use Rattle.ll_item.specs.declared.part.Part.{Part}
use Rattle.ll_window.specs.declared.segment.Segment.{Segment}
use Rattle.ll_window.specs.Segments.{duration}

pub record Row : Type 0 where
  pub segment : Segment
  -- the parts that playlists list
  pub parts : List Part

-- the parts of a segment, none if they are not kept
abbrev pub parts_in : {A : Type 0} → Option A → (A → List Part) → List Part
parts_in None parts_of = []
parts_in (Some kept) parts_of = parts_of kept

-- whether a segment with these parts is broken: a break came right before its first part (section 4.4.4.3, rule 11)
abbrev pub is_broken : List Part → Bool
is_broken [] = false
is_broken (p ∷ ps) = p.after_break

abbrev pub one_if : Bool → ℕ
one_if true = 1
one_if false = 0

-- the segment with this Media Sequence Number and these parts, which begins at this time; `maps` segments before it are broken (rule 12)
abbrev pub row : ℕ → ℕ → ℕ → List Part → Row
row number maps time ps = record {
  segment = record {
    number = number;
    broken = is_broken ps;
    map_number = maps + one_if (is_broken ps);
    time = time;
    duration = duration ps;
  };
  parts = ps;
}

-- the time that a break sets, in microseconds, or else `time`
abbrev pub restarted : Option ℕ → ℕ → ℕ
restarted None time = time
restarted (Some ms) time = ms * 1000

-- when a segment with these parts begins if the one before ends at `time`: then, unless a break before its first part set a time (rule 13)
abbrev pub begun : ℕ → List Part → ℕ
begun time [] = time
begun time (p ∷ ps) = restarted p.restart time

-- when the last of these segments ends if the one before them ends at `time`
abbrev pub time_after : ℕ → List (List Part) → ℕ
time_after time [] = time
time_after time (segment ∷ segments) = time_after (begun time segment + duration segment) segments

-- one row for each segment; `maps` segments before the first are broken. Each number is one more than the last (section 4.4.3.2, rule 6), and
-- each segment begins when the last one ends, or at the time that a break set
abbrev pub rows : ℕ → ℕ → ℕ → List (List Part) → List Row
rows number maps time [] = []
rows number maps time (segment ∷ segments) =
    row number maps (begun time segment) segment
    ∷ rows (number + 1) (maps + one_if (is_broken segment)) (begun time segment + duration segment) segments

-- the duration of these segments together, in microseconds
abbrev pub lasting : List Row → ℕ
lasting rows = sum_by (λ r. r.segment.duration) rows

-- how many of these segments are broken
abbrev pub broken_in : List Row → ℕ
broken_in rows = sum_by (λ r. one_if r.segment.broken) rows

-- The pieces of a stream, movie by movie and fragment by fragment: either the next fragment of each is known, or each is a part.
use Rattle.std.specs.Prelude.{◌&&◌, ◌||◌, ℕ, ⊤, ◌≡◌, take, drop, ◌+◌, ◌-◌, Bool, true, false, List, [], ◌∷◌, ◌++◌, length, nat_lt, min, ◌^◌, if◌then◌else◌, not, Option, Some, None}
use Rattle.ll_runs.specs.Times.{duration_to, ends_run, is_counted, joined_to, judged, micros, next_at, place_of, rendition_end, said_to, size_limit, time_of, times_after, times_from}
use Rattle.ll_parts.specs.Others.{bytes_of, leads, stay}
use Rattle.ll_parts.specs.Pieces.{ending, part_of}
use Rattle.ll_parts.specs.Prompt.{Parted, finish, parted, said_between}
use Rattle.ll_runs.specs.Prompt.{end_of_parts, next_after, times_at}
use Rattle.ll_mp4.specs.Movies.{MovieValue}
use Rattle.ll_mp4.specs.declared.fault.StreamFault.{StreamFault}
use Rattle.ll_mp4.specs.declared.fault.StreamFault.TheVariants.{TooLarge}
use Rattle.ll_runs.specs.Refusals.{is_long, refusal_at, refusal_by, refusal_of}
use Rattle.ll_runs.specs.declared.lengths.Lengths.{Lengths}
use Rattle.ll_parts.specs.declared.pieces.Piece.{Piece}
use Rattle.ll_parts.specs.declared.pieces.Piece.TheVariants.{Begin, Init}
use Rattle.ll_parts.specs.declared.heading.Heading.{Heading}
use Rattle.ll_parts.specs.declared.stage.Held.{Held}
use Rattle.ll_parts.specs.declared.others.Other.{Other}
use Rattle.ll_parts.specs.declared.stage.Parting.{Parting}
use Rattle.ll_parts.specs.declared.stage.Stage.{Stage}
use Rattle.ll_parts.specs.declared.stage.Stage.TheVariants.{Silent, Under, Prompt}
use Rattle.ll_runs.specs.declared.times.Cut.{Cut}
use Rattle.ll_runs.specs.declared.times.Cut.TheVariants as cut
use Rattle.ll_runs.specs.declared.times.Judged.{Judged}
use Rattle.ll_runs.specs.declared.times.Next.{Next}
use Rattle.ll_runs.specs.declared.times.Next.TheVariants.{Over}
use Rattle.ll_runs.specs.declared.times.Times.{Times}
use Rattle.ll_parts.specs.declared.stage.Onward.{Onward}
use Rattle.ll_parts.specs.declared.stage.Group.{Group}
use Rattle.ll_mp4.specs.declared.timing.Timing.{Timing}

-- ---- what a stream has

-- the lengths, the movie's values, the end of the rendition in microseconds as the movie began, and what isn't published yet
pub record Joining : Type 0 where
  pub lengths : Lengths
  pub heading : Heading
  pub end : ℕ
  pub stage : Stage

-- before any movie, for a rendition that ends at `end`
abbrev pub at_start : Lengths → ℕ → Joining
at_start lengths end = record { lengths = lengths; heading = record { section = []; scales = []; scale = 1 }; end = end; stage = Silent [] }

-- ---- a fragment whose successor is known

-- the part that ends before it, if one does
abbrev pub said_before : Heading → Times → List ℕ → ℕ → Cut → List Piece
said_before h t under begin cut.Joins = []
said_before h t under begin cut.Part = part_of h t under (duration_to t begin) false ∷ []
said_before h t under begin cut.Segment = part_of h t under (duration_to t begin) true ∷ []

-- the bytes of the part under way with it
abbrev pub with_group : Cut → List ℕ → List ℕ → List ℕ
with_group cut.Joins under bytes = under ++ bytes
with_group cut.Part under bytes = bytes
with_group cut.Segment under bytes = bytes

-- the pieces after it, if the run ends at this microsecond of it
abbrev pub said_after : Heading → Times → List ℕ → ℕ → Bool → Next → List Piece
said_after h t under end false next = []
said_after h t under end true next = part_of h t under (duration_to t end) true ∷ ending h t next

-- the pieces that a fragment completes, and what continues after it
pub record Step : Type 0 where
  pub pieces : List Piece
  pub onward : Onward

abbrev pub onward_after : Times → List ℕ → ℕ → Bool → Next → Onward
onward_after t under end ends next = record { times = times_after t end ends next; bytes = if ends then [] else under; end = rendition_end t end }

-- the step of a fragment that was added: `t` are its part's times, and `under` the bytes of its part
abbrev pub step_joined : Heading → List Piece → Times → List ℕ → ℕ → Bool → Next → Step
step_joined h before t under end ends next = record {
  pieces = before ++ said_after h t under end ends next;
  onward = onward_after t under end ends next;
}

abbrev pub step_by : Heading → Times → List ℕ → Group → Next → Judged → Step
step_by h t under group next judged =
    step_joined h (said_before h t under judged.begin judged.cut) (joined_to judged.cut t (length under) judged.begin judged.lasts group.sync)
    (with_group judged.cut under group.bytes) judged.end judged.ends next

abbrev pub step_of : Lengths → Heading → Times → List ℕ → Group → Next → Step
step_of lengths h t under group next = step_by h t under group next (judged lengths h.scale t (length under) group.ticks group.sync (length group.bytes) next)

-- ---- one more element

-- a fragment with the bytes of these others
abbrev pub group_of : Held → List Other → Group
group_of held others = record { bytes = held.bytes ++ bytes_of others; ticks = held.ticks; sync = held.sync }

abbrev pub held_of : List ℕ → List ℕ → Timing → Held
held_of lead bytes timing = record { bytes = lead ++ bytes; ticks = timing.ticks; sync = timing.sync; since = [] }

abbrev pub on_stage : Joining → Stage → Joining
on_stage j stage = record j { stage = stage }

-- the pieces that an element completes, and the state after it
pub record Taken : Type 0 where
  pub pieces : List Piece
  pub after : Joining

-- the successor of a fragment, and the number of the elements since that go with it
abbrev pub parting_by : ℕ → Held → Times → Next → Bool → Parting
parting_by scale held t next ends = record { next = next; ends = ends; count = stay ends (leads scale t.position (place_of next)) held.since }

abbrev pub parting_at : Lengths → ℕ → Held → Times → Next → Parting
parting_at lengths scale held t next = parting_by scale held t next (ends_run lengths (said_to scale t held.ticks next) next)

abbrev pub parting : Lengths → ℕ → Held → Times → Option ℕ → Parting
parting lengths scale held t time = parting_at lengths scale held t (next_at lengths scale t.position (time_of t held.ticks time))

abbrev pub after_step : Joining → List ℕ → List ℕ → Timing → Step → Taken
after_step j lead bytes timing step = record { pieces = step.pieces; after = on_stage j (Under (held_of lead bytes timing) step.onward.times step.onward.bytes) }

-- the pieces that the next fragment completes, and the state after it
abbrev pub followed : Joining → Held → Times → List ℕ → List ℕ → Timing → Parting → Taken
followed j held t under bytes timing p =
    after_step j (bytes_of (drop p.count held.since)) bytes timing (step_of j.lengths j.heading t under (group_of held (take p.count held.since)) p.next)

abbrev pub first_time : Option ℕ → ℕ
first_time None = 0
first_time (Some time) = time

-- the times of the run that a movie's first fragment begins
abbrev pub first_times : Joining → Timing → Times
first_times j timing = times_from (first_time timing.time) j.end (first_time timing.time)

-- a fragment that is a part, after the pieces before it
abbrev pub with_part : Joining → List Piece → Parted → Taken
with_part j before parted = record { pieces = before ++ parted.piece ∷ []; after = on_stage j (Prompt [] parted.times) }

abbrev pub with_part_at : Joining → Times → List ℕ → Timing → Next → Taken
with_part_at j t bytes timing next = with_part j (said_between j.heading t next) (parted j.lengths j.heading (times_at t next) bytes timing)

abbrev pub heard : Joining → Stage → List ℕ → Timing → Taken
heard j (Silent lead) bytes timing =
    if j.lengths.ahead then record { pieces = []; after = on_stage j (Under (held_of lead bytes timing) (first_times j timing) []) }
    else with_part j [] (parted j.lengths j.heading (first_times j timing) (lead ++ bytes) timing)
heard j (Under held t under) bytes timing = followed j held t under bytes timing (parting j.lengths j.heading.scale held t timing.time)
heard j (Prompt lead t) bytes timing = with_part_at j t (lead ++ bytes) timing (next_after j.lengths j.heading.scale t timing.time)

-- the fault of a fragment after the one that is held
abbrev pub refusal_after : Lengths → ℕ → Held → ℕ → ℕ → Parting → Option StreamFault
refusal_after lengths scale held size ticks p =
    refusal_by (is_long lengths scale p.ends ticks)
    (refusal_of scale (place_of p.next + ticks) (length (bytes_of (drop p.count held.since)) + size))

-- the fault of a fragment of `size` bytes, or none
unfoldable pub refusal : Joining → Stage → ℕ → Timing → Option StreamFault
refusal j (Silent lead) size timing =
    if j.lengths.ahead
    then
    refusal_by (is_long j.lengths j.heading.scale true timing.ticks)
    (refusal_of j.heading.scale (first_time timing.time + timing.ticks) (length lead + size))
    else refusal_at j.lengths j.heading.scale (first_times j timing) timing.ticks (length lead + size)
refusal j (Under held t under) size timing =
    refusal_after j.lengths j.heading.scale held size timing.ticks (parting j.lengths j.heading.scale held t timing.time)
refusal j (Prompt lead t) size timing =
    refusal_at j.lengths j.heading.scale (times_at t (next_after j.lengths j.heading.scale t timing.time)) timing.ticks (length lead + size)

-- the number of bytes to which the next ones of other tracks are added
abbrev pub size_of : Stage → ℕ
size_of (Silent lead) = length lead
size_of (Under held t under) = length held.bytes + length (bytes_of held.since)
size_of (Prompt lead t) = length lead

-- the fault of `size` bytes without a fragment of the governing track: they are too many with those that they go with
abbrev pub refusal_beside : Stage → ℕ → Option StreamFault
refusal_beside stage size = if nat_lt size_limit (size_of stage + size) then Some TooLarge else None

abbrev pub beside : Stage → Other → Stage
beside (Silent lead) other = Silent (lead ++ other.bytes)
beside (Under held t under) other = Under (record held { since = held.since ++ other ∷ [] }) t under
beside (Prompt lead t) other = Prompt (lead ++ other.bytes) t

-- ---- the end of a movie

abbrev pub over : Joining → Stage → List Piece
over j (Silent lead) = []
over j (Under held t under) = (step_of j.lengths j.heading t under (group_of held held.since) Over).pieces
over j (Prompt lead t) = finish t

-- the end of the rendition then
abbrev pub end_of : Joining → Stage → ℕ
end_of j (Silent lead) = j.end
end_of j (Under held t under) = (step_of j.lengths j.heading t under (group_of held held.since) Over).onward.end
end_of j (Prompt lead t) = end_of_parts t

abbrev pub finished : Joining → Joining
finished j = record j { end = end_of j j.stage; stage = Silent [] }

abbrev pub heading_of : List ℕ → MovieValue → Heading
heading_of section movie = record { section = section; scales = movie.scales; scale = movie.governing.scale }

abbrev pub begun : Joining → List ℕ → MovieValue → Taken
begun j section movie = record {
  pieces = over j j.stage ++ Begin section ∷ [];
  after = record (finished j) { heading = heading_of section movie };
}

abbrev pub silent : List ℕ → Stage
silent lead = Silent lead

abbrev pub empty_stage : Stage
empty_stage = Silent []

abbrev pub under : Held → Times → List ℕ → Stage
under held t bytes = Under held t bytes

abbrev pub prompt : List ℕ → Times → Stage
prompt lead t = Prompt lead t

-- the tick at which the samples so far end can be counted
abbrev pub IsCounted : ℕ → Stage → Type 0
IsCounted scale (Silent lead) = ⊤
IsCounted scale (Under held t under) = is_counted scale (t.position + held.ticks) ≡ true
IsCounted scale (Prompt lead t) = is_counted scale t.position ≡ true

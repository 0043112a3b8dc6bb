-- The parts of a stream if each fragment is a part and is published as it comes.
use Rattle.std.specs.Prelude.{ℕ, Bool, List, [], ◌∷◌, ◌++◌, if◌then◌else◌}
use Rattle.ll_mp4.specs.declared.timing.Timing.{Timing}
use Rattle.ll_parts.specs.Pieces.{ending, part_of}
use Rattle.ll_parts.specs.declared.heading.Heading.{Heading}
use Rattle.ll_parts.specs.declared.pieces.Piece.{Piece}
use Rattle.ll_parts.specs.declared.pieces.Piece.TheVariants.{Finish}
use Rattle.ll_runs.specs.Prompt.{ends_before, finishes, is_open, part_end, part_lasts, times_past}
use Rattle.ll_runs.specs.declared.lengths.Lengths.{Lengths}
use Rattle.ll_runs.specs.declared.times.Next.{Next}
use Rattle.ll_runs.specs.declared.times.Times.{Times}

abbrev pub finish : Times → List Piece
finish t = if is_open t then Finish ∷ [] else []

-- the pieces before `next`
abbrev pub said_between : Heading → Times → Next → List Piece
said_between h t next = if ends_before t next then finish t ++ ending h t next else []

-- a fragment's part, and the times after it
pub record Parted : Type 0 where
  pub piece : Piece
  pub times : Times

abbrev pub parted_by : Lengths → Heading → Times → List ℕ → ℕ → ℕ → Parted
parted_by lengths h t bytes ticks lasts = record {
  piece = part_of h t bytes lasts (finishes lengths t lasts);
  times = times_past t ticks (part_end t lasts) (finishes lengths t lasts);
}

-- a fragment's part in a run with these times
abbrev pub parted : Lengths → Heading → Times → List ℕ → Timing → Parted
parted lengths h t bytes timing = parted_by lengths h (record t { independent = timing.sync }) bytes timing.ticks (part_lasts h.scale t timing.ticks)

-- The pieces of a run: its parts, and the break between it and the next one.
use Rattle.std.specs.Prelude.{ℕ, Bool, List, [], ◌∷◌, Some, None}
use Rattle.ll_runs.specs.Times.{since_origin}
use Rattle.ll_parts.specs.declared.heading.Heading.{Heading}
use Rattle.ll_parts.specs.declared.pieces.Piece.{Piece}
use Rattle.ll_parts.specs.declared.pieces.Piece.TheVariants.{Init, Media, Break}
use Rattle.ll_runs.specs.declared.times.Next.{Next}
use Rattle.ll_runs.specs.declared.times.Next.TheVariants.{Over, Back, At}
use Rattle.ll_runs.specs.declared.times.Times.{Times}
use Rattle.ll_shift.specs.Moved.{moved}
use Rattle.ll_shift.specs.declared.shift.Shift.{Shift}

-- the move of the times of a run
abbrev pub shift_of : ℕ → Times → Shift
shift_of scale t = record { base = t.base; scale = scale; end = t.end }

-- a part of these bytes
abbrev pub part_of : Heading → Times → List ℕ → ℕ → Bool → Piece
part_of h t bytes duration finishes = Media (record {
  bytes = moved (shift_of h.scale t) h.scales bytes;
  duration = duration;
  independent = t.independent;
  finishes = finishes;
})

-- the pieces after the last part of a run
abbrev pub ending : Heading → Times → Next → List Piece
ending h t Over = []
ending h t (Back tick) = Break None ∷ Init h.section ∷ []
ending h t (At tick) = Break (Some (since_origin h.scale t tick)) ∷ Init h.section ∷ []

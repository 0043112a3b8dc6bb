-- The definitions at a worked example: two segments of a run, and a break.
use Rattle.std.specs.Prelude.{◌≡◌, ℕ, List, [], ◌∷◌, Bool, true, false, None}
use Rattle.ll_mp4.specs.Movies.{MovieValue}
use Rattle.ll_parts.specs.declared.pieces.Piece.TheVariants as piece
use Rattle.ll_shift.specs.declared.shift.Shift.{Shift}
use Rattle.ll_part_laws.specs.Laws.{Place, after, after_part, at_first, so_far}
use Rattle.ll_part_laws.specs.Made.{Fragment, Made, Gap, Lost, pieces_from, units_from}
use Rattle.ll_part_laws.specs.Made.{Movie as Begun, Part as Whole}

-- a fragment of a unit that lasts this long, after another unit
abbrev pub fragment : List ℕ → ℕ → Bool → Fragment
fragment unit lasts sync = record { lead = (7 ∷ []) ∷ []; unit = unit; rest = []; told = None; ticks = 0; tick = 0; lasts = lasts; sync = sync }

abbrev pub unmoved : Shift
unmoved = record { base = 0; scale = 1000000; end = 5000000 }

-- a part of half a second, of two fragments; one of less than a microsecond; and one of a quarter of a second, the last of its segment
abbrev pub long : Made
long = record { first = fragment (1 ∷ []) 300000 true; more = fragment (2 ∷ []) 200000 false ∷ []; shift = unmoved; scales = []; origin = 0; finishes = false }

abbrev pub none : Made
none = record { first = fragment (3 ∷ []) 0 false; more = []; shift = unmoved; scales = []; origin = 0; finishes = false }

abbrev pub last : Made
last = record { first = fragment (4 ∷ []) 250000 false; more = []; shift = unmoved; scales = []; origin = 0; finishes = true }

-- after these parts, in a rendition that ended at 5 seconds
abbrev pub after_none : Place
after_none = after_part (after_part (at_first 5000000) long) none

abbrev pub after_last : Place
after_last = after_part after_none last

pub record WorkedParts : Type 0 where
  -- the duration of the segment under way, and the end of the rendition, for which each part lasts at least a microsecond
  pub under_way : so_far after_none ≡ 500000
  pub reached : after_none.reached ≡ 5500001
  -- the segment that has ended, and the one that begins
  pub segment : after_last.segment ≡ 750000
  pub anew : so_far after_last ≡ 0
  pub run : after_last.run ≡ 750000
  -- the next run begins at the end of the rendition
  pub ends : after_last.reached ≡ 5750000
  pub gap : (after after_last (Gap None 0 [])).end ≡ 5750000
  pub over : (after after_last (Gap None 0 [])).run ≡ 0
  -- no unit is lost
  pub units : units_from (Whole long ∷ Gap None 0 [] ∷ Lost ((9 ∷ []) ∷ []) ∷ []) ≡ (7 ∷ []) ∷ (1 ∷ []) ∷ (7 ∷ []) ∷ (2 ∷ []) ∷ (9 ∷ []) ∷ []
  -- a movie begins with its section, which comes again after a break
  pub begins : (movie : MovieValue) → pieces_from (Begun (8 ∷ []) movie ∷ []) ≡ piece.Begin (8 ∷ []) ∷ []
  pub pieces : pieces_from (Gap None 0 (8 ∷ []) ∷ Lost ((9 ∷ []) ∷ []) ∷ []) ≡ piece.Break None ∷ piece.Init (8 ∷ []) ∷ []

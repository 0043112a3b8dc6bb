-- The sources of a stream's pieces: fragments of the governing track, each with the units that go with it.
use Rattle.std.specs.Prelude.{ℕ, ◌+◌, Bool, List, [], ◌∷◌, ◌++◌, Option, max}
use Rattle.std.specs.List.{concat}
use Rattle.ll_mp4.specs.Movies.{MovieValue}
use Rattle.ll_mp4.specs.declared.track.TimeScale.{TimeScale}
use Rattle.ll_parts.specs.declared.pieces.Piece.{Piece}
use Rattle.ll_parts.specs.declared.pieces.Piece.TheVariants as piece
use Rattle.ll_shift.specs.Moved.{moved}
use Rattle.ll_shift.specs.declared.shift.Shift.{Shift}

-- ---- fragments

-- a fragment of the governing track, with the units that go with it
pub record Fragment : Type 0 where
  -- units of the input that came before it
  pub lead : List (List ℕ)
  -- its own unit
  pub unit : List ℕ
  -- units that came after it
  pub rest : List (List ℕ)
  -- its decode time, if any
  pub told : Option ℕ
  -- the duration of its samples, in ticks
  pub ticks : ℕ
  -- the tick at which it begins
  pub tick : ℕ
  -- its duration, in microseconds
  pub lasts : ℕ
  -- whether it begins with a sync sample
  pub sync : Bool

abbrev pub units : Fragment → List (List ℕ)
units f = f.lead ++ f.unit ∷ f.rest

-- its bytes, before their times are moved
abbrev pub bytes_of : Fragment → List ℕ
bytes_of f = concat (units f)

-- the duration of fragments together, in microseconds
abbrev pub time_in : List Fragment → ℕ
time_in [] = 0
time_in (f ∷ later) = f.lasts + time_in later

abbrev pub bytes_in : List Fragment → List ℕ
bytes_in [] = []
bytes_in (f ∷ later) = bytes_of f ++ bytes_in later

abbrev pub units_in : List Fragment → List (List ℕ)
units_in [] = []
units_in (f ∷ later) = units f ++ units_in later

-- ---- parts

-- a part: its first fragment, those that joined it, the move of its times, the time scales of its tracks, the tick from which the program's time is
-- counted, and whether it is the last of its segment
pub record Made : Type 0 where
  pub first : Fragment
  pub more : List Fragment
  pub shift : Shift
  pub scales : List TimeScale
  pub origin : ℕ
  pub finishes : Bool

abbrev pub fragments : Made → List Fragment
fragments m = m.first ∷ m.more

abbrev pub last_in : Fragment → List Fragment → Fragment
last_in f [] = f
last_in f (next ∷ later) = last_in next later

-- the last fragment of a part
abbrev pub last_of : Made → Fragment
last_of m = last_in m.first m.more

-- its duration, in microseconds
abbrev pub time : Made → ℕ
time m = time_in (fragments m)

-- the published part; one of less than a microsecond lasts one
abbrev pub part_from : Made → Piece
part_from m = piece.Media (record {
  bytes = moved m.shift m.scales (bytes_in (fragments m));
  duration = max 1 (time m);
  independent = m.first.sync;
  finishes = m.finishes;
})

-- ---- all pieces

-- the source of pieces
pub data Source : Type 0 where
  -- the initialization section of a movie that begins, and what it says
  Movie : List ℕ → MovieValue → Source
  -- a part
  Part : Made → Source
  -- a break, the tick at which the next fragment begins, and the initialization section that comes again
  Gap : Option ℕ → ℕ → List ℕ → Source
  -- the units of a movie without any fragment of its governing track, of which nothing is published
  Lost : List (List ℕ) → Source

abbrev pub pieces_of : Source → List Piece
pieces_of (Movie section movie) = piece.Begin section ∷ []
pieces_of (Part m) = part_from m ∷ []
pieces_of (Gap since tick section) = piece.Break since ∷ piece.Init section ∷ []
pieces_of (Lost units) = []

abbrev pub pieces_from : List Source → List Piece
pieces_from [] = []
pieces_from (s ∷ later) = pieces_of s ++ pieces_from later

-- the units of a source
abbrev pub units_of : Source → List (List ℕ)
units_of (Movie section movie) = section ∷ []
units_of (Part m) = units_in (fragments m)
units_of (Gap since tick section) = []
units_of (Lost units) = units

abbrev pub units_from : List Source → List (List ℕ)
units_from [] = []
units_from (s ∷ later) = units_of s ++ units_from later

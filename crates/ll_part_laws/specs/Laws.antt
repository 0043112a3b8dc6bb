-- The laws of the pieces of an encoder's stream.
use Rattle.std.specs.Prelude.{◌≡◌, ◌≤◌, ◌<◌, ⊤, ℕ, ◌+◌, ◌-◌, ◌*◌, ◌^◌, List, [], ◌∷◌, ◌++◌, Bool, true, false, length, if◌then◌else◌, min, max, Option, Some, None, Ok}
use Rattle.std.specs.List.{All}
use Rattle.std.specs.Option.{unwrap_or}
use Rattle.ll_mp4.specs.Elements.{element_of}
use Rattle.ll_mp4.specs.Movies.{MovieValue}
use Rattle.ll_mp4.specs.Streams.{at_front, fed, told}
use Rattle.ll_mp4.specs.declared.element.Element.TheVariants as element
use Rattle.ll_mp4.specs.declared.timing.DecodeTime.{DecodeTime}
use Rattle.ll_mp4.specs.declared.timing.Timing.{Timing}
use Rattle.ll_parts.specs.Joined.{heading_of}
use Rattle.ll_parts.specs.Stream.{published}
use Rattle.ll_runs.specs.Times.{micros, micros_up, size_limit}
use Rattle.ll_parts.specs.declared.heading.Heading.{Heading}
use Rattle.ll_runs.specs.declared.lengths.Lengths.{Lengths}
use Rattle.ll_shift.specs.declared.shift.Shift.{Shift}
use Rattle.ll_part_laws.specs.Made.{Fragment, Made, Source, Movie, Part, Gap, Lost, bytes_in, bytes_of, fragments, last_of, pieces_from, time, units_from}

-- ---- the place of a part

-- The run after a break: the tick at which it begins, the tick at which the samples of the fragment before the break end, and the tick from which the
-- program's time is counted.
pub record Jump : Type 0 where
  pub tick : ℕ
  pub next : ℕ
  pub origin : ℕ

-- What is known before a part. A run is the parts between two breaks or beginnings of movies.
pub record Place : Type 0 where
  -- the last movie, if any, and the values with which its pieces are made
  pub movie : Option MovieValue
  pub heading : Heading
  -- the beginning of the run, if a break is before it
  pub jump : Option Jump
  -- the end of the rendition as the run began, in microseconds
  pub end : ℕ
  -- the end of the rendition with the part before, in microseconds, as a number of 64 bits
  pub reached : ℕ
  -- the duration of the run's parts up to here, in microseconds
  pub run : ℕ
  -- the duration of those of the segment of the part before, in microseconds
  pub segment : ℕ
  -- the part before it in the run
  pub before : Option Made

-- the place before a run, in a rendition that ends at this microsecond
abbrev pub at_end : Option MovieValue → Heading → Option Jump → ℕ → Place
at_end movie heading jump end = record { movie = movie; heading = heading; jump = jump; end = end; reached = end; run = 0; segment = 0; before = None }

-- the place before any movie
abbrev pub at_first : ℕ → Place
at_first end = at_end None (record { section = []; scales = []; scale = 1 }) None end

-- whether no segment is under way: a run begins, or the part before is the last of its segment
abbrev pub is_between : Option Made → Bool
is_between None = true
is_between (Some m) = m.finishes

-- the duration of the segment under way up to here, in microseconds
abbrev pub so_far : Place → ℕ
so_far p = if is_between p.before then 0 else p.segment

abbrev pub after_part : Place → Made → Place
after_part p m = record {
  movie = p.movie;
  heading = p.heading;
  jump = p.jump;
  end = p.end;
  reached = min (p.end + p.run + max 1 (time m)) (2 ^ 64 - 1);
  run = p.run + time m;
  segment = so_far p + time m;
  before = Some m;
}

-- the tick from which the program's time is counted: that is set anew if times go back
abbrev pub origin_after : Option ℕ → ℕ → Option Made → ℕ
origin_after None tick before = tick
origin_after (Some since) tick None = tick
origin_after (Some since) tick (Some m) = m.origin

-- the tick at which the samples of the last fragment end
abbrev pub samples_end : Option Made → ℕ
samples_end None = 0
samples_end (Some m) = (last_of m).tick + (last_of m).ticks

abbrev pub after : Place → Source → Place
after p (Movie section movie) = at_end (Some movie) (heading_of section movie) None p.reached
after p (Part m) = after_part p m
after p (Gap since tick section) = at_end p.movie p.heading (Some (record { tick = tick; next = samples_end p.before; origin = origin_after since tick p.before })) p.reached
after p (Lost units) = p

-- ---- a fragment

-- a unit without a fragment of the movie's governing track
abbrev pub IsBeside : Option MovieValue → List ℕ → Type 0
IsBeside movie unit = (decode_time : Option DecodeTime) × (element_of movie unit ≡ Ok (element.Beside decode_time))

-- a unit with a fragment of the governing track, and the others that go with it, which have none
pub record IsFragment (movie : Option MovieValue) (f : Fragment) : Type 0 where
  pub timing : Timing
  pub read : element_of movie f.unit ≡ Ok (element.Fragment timing)
  pub sync : f.sync ≡ timing.sync
  pub told : f.told ≡ timing.time
  pub ticks : f.ticks ≡ timing.ticks
  pub lead : All (IsBeside movie) f.lead
  pub rest : All (IsBeside movie) f.rest

-- the decode time of `next`, or else the tick at which the samples of `f`, the one before it, end
abbrev pub told_after : Fragment → Fragment → ℕ
told_after f next = unwrap_or next.told (f.tick + f.ticks)

-- A fragment after another in its run begins at the tick `told_after`, but no earlier than that one. It isn't earlier by more than a part: then the
-- run would end before it.
abbrev pub IsNext : Lengths → Shift → Fragment → Fragment → Type 0
IsNext lengths shift f next = (next.tick ≡ max f.tick (told_after f next)) × ((f.tick - told_after f next) * 1000000 ≤ lengths.part * shift.scale)

abbrev pub AreNext : Lengths → Shift → Fragment → List Fragment → Type 0
AreNext lengths shift f [] = ⊤
AreNext lengths shift f (next ∷ later) = IsNext lengths shift f next × AreNext lengths shift next later

-- ---- a part

-- the longest segment: no part is cut because it alone is longer than a segment is allowed to be
abbrev pub longest : Lengths → ℕ
longest lengths = max lengths.part lengths.most

-- A part with which its segment lasts `segment` is cut from the next fragment of the run, with which another part begins.
pub record IsCut (lengths : Lengths) (segment : ℕ) (m : Made) (next : Fragment) : Type 0 where
  pub tick : IsNext lengths m.shift (last_of m) next
  -- if the segment goes on, the part is full: with the fragment it would be longer than a part is allowed to be, or have too many bytes
  pub full : m.finishes ≡ false → length (bytes_in (fragments m)) + length (bytes_of next) ≤ size_limit → lengths.part < time m + next.lasts
  -- and the segment isn't long enough yet to end before a sync sample
  pub early : m.finishes ≡ false → next.sync ≡ true → segment < lengths.segment
  -- a segment begins with a sync sample, unless the one before it would have been too long
  pub forced : m.finishes ≡ true → next.sync ≡ false → lengths.most < segment + next.lasts
  -- a segment is as long as `lengths` say, unless it would have been too long
  pub long : m.finishes ≡ true → segment < lengths.segment → lengths.most < segment + next.lasts

-- the next fragment is cut from the part before it in the run, if there is one
abbrev pub IsCutFrom : Lengths → ℕ → Option Made → Fragment → Type 0
IsCutFrom lengths segment None next = ⊤
IsCutFrom lengths segment (Some m) next = IsCut lengths segment m next

-- Each fragment begins where those of the run before it end, and that is at its tick: so durations never drift from the encoder's times.
abbrev pub AreOnTime : Shift → ℕ → List Fragment → Type 0
AreOnTime shift begin [] = ⊤
AreOnTime shift begin (f ∷ later) = (begin ≡ micros shift.scale (f.tick - shift.base)) × AreOnTime shift (begin + f.lasts) later

-- No fragment that joins a part is one before which the segment would have to end: none begins with a sync sample once the segment is long enough.
-- This holds if the part already lasts a microsecond.
abbrev pub AreEarly : Lengths → ℕ → ℕ → List Fragment → Type 0
AreEarly lengths segment part [] = ⊤
AreEarly lengths segment part (f ∷ later) =
    (0 < part → f.sync ≡ true → segment + part < lengths.segment) × AreEarly lengths segment (part + f.lasts) later

-- The run is the first of its movie, or begins as the break before it says. It begins at the decode time of its first fragment; without one, at 0, or
-- where the samples of the fragment before it end.
abbrev pub IsFrom : Option Jump → ℕ → Option ℕ → ℕ → Type 0
IsFrom None tick told origin = (tick ≡ unwrap_or told 0) × (origin ≡ tick)
IsFrom (Some jump) tick told origin = (tick ≡ jump.tick) × (tick ≡ unwrap_or told jump.next) × (origin ≡ jump.origin)

-- the parts of a run are all moved alike, from the tick of its first fragment
abbrev pub IsOfRun : Option Jump → Option Made → ℕ → Shift → Fragment → Type 0
IsOfRun jump None origin shift first = (shift.base ≡ first.tick) × IsFrom jump first.tick first.told origin
IsOfRun jump (Some m) origin shift first = (m.shift ≡ shift) × (m.origin ≡ origin)

pub record IsPart (lengths : Lengths) (p : Place) (m : Made) : Type 0 where
  pub told : All (IsFragment p.movie) (fragments m)
  pub ticks : AreNext lengths m.shift m.first m.more
  pub short : time m ≤ lengths.part
  pub small : length (bytes_in (fragments m)) ≤ size_limit
  pub early : AreEarly lengths (so_far p) m.first.lasts m.more
  -- its first fragment doesn't make its segment longer than allowed
  pub begins : so_far p + m.first.lasts ≤ longest lengths
  -- with it its segment is no longer than allowed, if its first fragment lasts at least a microsecond
  pub fits : 0 < m.first.lasts → so_far p + time m ≤ longest lengths
  -- otherwise it is longer by at most a part
  pub nearly : so_far p + time m ≤ longest lengths + lengths.part
  pub cut_from : IsCutFrom lengths p.segment p.before m.first
  pub on_time : AreOnTime m.shift p.run (fragments m)
  pub of_run : IsOfRun p.jump p.before m.origin m.shift m.first
  -- its times are moved to the end of the rendition as the run began
  pub goes_on : m.shift.end ≡ p.end
  -- with the time scales of the movie's tracks
  pub scale : m.shift.scale ≡ p.heading.scale
  pub scales : m.scales ≡ p.heading.scales

-- ---- the end of a run, and a break

-- the last fragment of a run is no longer than its samples
abbrev pub IsLast : Made → Type 0
IsLast m = (last_of m).lasts ≤ micros m.shift.scale (samples_end (Some m) - m.shift.base) - micros m.shift.scale ((last_of m).tick - m.shift.base)

-- a run ends with the last part of a segment, and has a part if it comes after a break
abbrev pub IsOver : Option Jump → Option Made → Type 0
IsOver jump None = jump ≡ None
IsOver jump (Some m) = (m.finishes ≡ true) × IsLast m

-- A break is due before a fragment whose tick is earlier than that of the last one by more than a part, or later by more than a part. In the second
-- case it has the microseconds from the origin of the program's time to that tick.
abbrev pub IsDue : Lengths → Made → Option ℕ → ℕ → Type 0
IsDue lengths m None tick = lengths.part * m.shift.scale < ((last_of m).tick - tick) * 1000000
IsDue lengths m (Some since) tick =
    (lengths.part < micros m.shift.scale (tick - m.shift.base) - micros m.shift.scale ((last_of m).tick - m.shift.base)) × (since ≡ micros_up m.shift.scale (tick - m.origin))

-- a break ends a run
abbrev pub IsGap : Lengths → Option Made → Option ℕ → ℕ → Type 0
IsGap lengths None since tick = ⊥
IsGap lengths (Some m) since tick = (m.finishes ≡ true) × IsLast m × IsDue lengths m since tick

-- ---- all pieces

-- a movie and the end of the stream end a run too; after a break the movie's section follows again; nothing is lost of a movie that has parts
abbrev pub IsRight : Lengths → Place → Source → Type 0
IsRight lengths p (Movie section movie) = IsOver p.jump p.before × (element_of p.movie section ≡ Ok (element.Movie movie))
IsRight lengths p (Part m) = IsPart lengths p m
IsRight lengths p (Gap since tick section) = IsGap lengths p.before since tick × (section ≡ p.heading.section)
IsRight lengths p (Lost units) = (p.before ≡ None) × (p.jump ≡ None) × All (IsBeside p.movie) units

abbrev pub AreRight : Lengths → Place → List Source → Type 0
AreRight lengths p [] = IsOver p.jump p.before
AreRight lengths p (s ∷ later) = IsRight lengths p s × AreRight lengths (after p s) later

-- the sources of the pieces of an input
pub record AreSources (lengths : Lengths) (end : ℕ) (input : List ℕ) (sources : List Source) : Type 0 where
  pub pieces : (published lengths end input).pieces ≡ pieces_from sources
  pub right : AreRight lengths (at_first end) sources
  -- their units, in order, are those of the input: all, or those before one with a fault
  pub refused : List (List ℕ)
  pub units : units_from sources ++ refused ≡ (told (fed (at_front []) input)).units
  pub whole : (published lengths end input).fault ≡ None → refused ≡ []

-- If parts wait for the fragment after them, the pieces of an input are made of sources of which all of this holds.
abbrev pub PartsAreMade : Type 0
PartsAreMade = (lengths : Lengths) (end : ℕ) (input : List ℕ) → lengths.ahead ≡ true → (sources : List Source) × AreSources lengths end input sources

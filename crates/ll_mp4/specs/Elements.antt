-- What a unit is: a movie, a fragment of the governing track, or a unit beside these.
use Rattle.std.specs.Prelude.{ℕ, Bool, true, false, List, Option, Some, None, Result, Ok, Err, ⊤}
use Rattle.ll_mp4.specs.Boxes.{Contents, Ended, Broken, Content, at_most_one, contents_in}
use Rattle.ll_mp4.specs.DecodeTimes.{decode_time_of}
use Rattle.ll_mp4.specs.Movies.{MovieValue, movie_of}
use Rattle.ll_mp4.specs.Numbers.{◌>>=◌}
use Rattle.ll_mp4.specs.Timings.{timing_of}
use Rattle.ll_mp4.specs.declared.element.Element.{Element}
use Rattle.ll_mp4.specs.declared.element.Element.TheVariants.{Movie, Fragment, Beside}
use Rattle.ll_mp4.specs.declared.fault.StreamFault.{StreamFault}
use Rattle.ll_mp4.specs.declared.fault.StreamFault.TheVariants.{Missing, NoMoov}
use Rattle.ll_mp4.specs.declared.kind.Kind.TheVariants.{Moof, Moov, Mdat}
use Rattle.ll_mp4.specs.declared.timing.Timing.{Timing}

abbrev pub has_some : Contents → Bool
has_some Ended = false
has_some Broken = true
has_some (Content content later) = true

-- a fragment before a movie has no samples after it, and the first movie has none before it
abbrev pub fragment_before : Option MovieValue → StreamFault
fragment_before None = NoMoov
fragment_before (Some movie) = Missing Mdat

-- a movie, if no fragment is before it
abbrev pub movie_by : Option MovieValue → Bool → List ℕ → Result Element StreamFault
movie_by known true moov = Err (fragment_before known)
movie_by known false moov = do
  movie ← movie_of moov
  Ok (Movie movie)

-- a fragment with this timing of the governing track, or a unit beside it, with the first decode time of other tracks
abbrev pub fragment_or : MovieValue → List ℕ → Option Timing → Element
fragment_or movie unit (Some timing) = Fragment timing
fragment_or movie unit None = Beside (decode_time_of movie unit)

-- a fragment of the known movie
abbrev pub fragment_by : Option MovieValue → List ℕ → Result Element StreamFault
fragment_by None unit = Err NoMoov
fragment_by (Some movie) unit = do
  timing ← timing_of movie unit
  Ok (fragment_or movie unit timing)

-- a unit with this `moov`, or without one
abbrev pub element_by : Option MovieValue → List ℕ → Option (List ℕ) → Result Element StreamFault
element_by known unit (Some moov) = movie_by known (has_some (contents_in Moof unit)) moov
element_by known unit None = fragment_by known unit

-- what `unit` is, if `known` is the last movie before it
abbrev pub element_of : Option MovieValue → List ℕ → Result Element StreamFault
element_of known unit = do
  moov ← at_most_one Moov unit
  element_by known unit moov

-- it is a movie
abbrev pub IsMovie : Result Element StreamFault → Type 0
IsMovie (Ok (Movie movie)) = ⊤
IsMovie (Ok (Fragment timing)) = ⊥
IsMovie (Ok (Beside decode_time)) = ⊥
IsMovie (Err fault) = ⊥

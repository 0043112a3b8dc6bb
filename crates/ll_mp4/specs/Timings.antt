-- The times of a fragment of its movie's governing track (ISO/IEC 14496-12, section 8.8.4).
use Rattle.std.specs.Prelude.{ℕ, ◌/◌, ◌^◌, ◌==◌, List, if◌then◌else◌, Option, Some, None, Result, Ok, Err, min}
use Rattle.ll_mp4.specs.Boxes.{Contents, Ended, Broken, Content, at_most_one, contents_in, only}
use Rattle.ll_mp4.specs.Movies.{MovieValue, scale_of}
use Rattle.ll_mp4.specs.Numbers.{◌>>=◌, large_number_at, number_at}
use Rattle.ll_mp4.specs.Samples.{defaults_of, is_sync, runs_of, tick_limit}
use Rattle.ll_mp4.specs.declared.fault.StreamFault.{StreamFault}
use Rattle.ll_mp4.specs.declared.fault.StreamFault.TheVariants.{BadBox, Missing, OtherTrack, Several}
use Rattle.ll_mp4.specs.declared.kind.Kind.TheVariants.{Moof, Traf, Tfhd, Tfdt, Trun}
use Rattle.ll_mp4.specs.declared.timing.Timing.{Timing}
use Rattle.ll_mp4.specs.declared.track.Track.{Track}

-- ---- the decode time (section 8.8.12)

-- it has 32 bits in version 0 and 64 bits in version 1
abbrev pub time_by : ℕ → List ℕ → Result ℕ StreamFault
time_by version tfdt = if version == 0 then number_at 4 tfdt else if version == 1 then large_number_at 4 tfdt else Err BadBox

-- the decode time in this box, if there is one
abbrev pub time_in : Option (List ℕ) → Result (Option ℕ) StreamFault
time_in None = Ok None
time_in (Some tfdt) = do
  word ← number_at 0 tfdt
  time ← time_by (word / 2 ^ 24) tfdt
  Ok (Some time)

-- the decode time of a track's fragment
abbrev pub time_of : List ℕ → Result (Option ℕ) StreamFault
time_of traf = do
  tfdt ← at_most_one Tfdt traf
  time_in tfdt

-- ---- a track's fragment (section 8.8.6)

-- the timing of a fragment of the governing track with this header
abbrev pub timing_in : Track → List ℕ → List ℕ → Result Timing StreamFault
timing_in track tfhd traf = do
  time ← time_of traf
  ours ← defaults_of track tfhd
  samples ← runs_of ours (contents_in Trun traf)
  Ok (record { time = time; ticks = min samples.ticks tick_limit; sync = is_sync samples.flags })

-- the timing after a fragment of the governing track, of which only one is allowed
abbrev pub and_governing : Track → Option Timing → List ℕ → List ℕ → Result (Option Timing) StreamFault
and_governing track (Some before) tfhd traf = Err (Several Traf)
and_governing track None tfhd traf = do
  timing ← timing_in track tfhd traf
  Ok (Some timing)

-- the timing after a fragment of another track, which is one of the movie's if it has a time scale
abbrev pub and_other : Option Timing → Option ℕ → Result (Option Timing) StreamFault
and_other before (Some scale) = Ok before
and_other before None = Err OtherTrack

-- the timing after one more track's fragment
abbrev pub and_traf : MovieValue → Option Timing → List ℕ → Result (Option Timing) StreamFault
and_traf movie before traf = do
  tfhd ← only Tfhd traf
  id ← number_at 4 tfhd
  if id == movie.governing.id then and_governing movie.governing before tfhd traf else and_other before (scale_of id movie.scales)

-- ---- a fragment

-- the timing after these tracks' fragments
abbrev pub and_trafs : MovieValue → Option Timing → Contents → Result (Option Timing) StreamFault
and_trafs movie before Ended = Ok before
and_trafs movie before Broken = Err BadBox
and_trafs movie before (Content traf later) = do
  timing ← and_traf movie before traf
  and_trafs movie timing later

-- the timing of a fragment, which has at least one track's
abbrev pub timing_of_trafs : MovieValue → Contents → Result (Option Timing) StreamFault
timing_of_trafs movie Ended = Err (Missing Traf)
timing_of_trafs movie trafs = and_trafs movie None trafs

-- the timing of the fragment in this box, if there is one
abbrev pub timing_of_moof : MovieValue → Option (List ℕ) → Result (Option Timing) StreamFault
timing_of_moof movie None = Ok None
timing_of_moof movie (Some moof) = timing_of_trafs movie (contents_in Traf moof)

-- the timing of a unit's fragment, or none if it has no fragment or none of the governing track
abbrev pub timing_of : MovieValue → List ℕ → Result (Option Timing) StreamFault
timing_of movie unit = do
  moof ← at_most_one Moof unit
  timing_of_moof movie moof

-- The first decode time of a fragment, of any track (ISO/IEC 14496-12, section 8.8.12).
use Rattle.std.specs.Prelude.{ℕ, List, Option, Some, None, Result, Ok, Err}
use Rattle.ll_mp4.specs.Boxes.{Contents, Ended, Broken, Content, at_most_one, contents_in, only}
use Rattle.ll_mp4.specs.Movies.{MovieValue, scale_of}
use Rattle.ll_mp4.specs.Numbers.{◌>>=◌, number_at}
use Rattle.ll_mp4.specs.Timings.{time_of}
use Rattle.ll_mp4.specs.declared.fault.StreamFault.{StreamFault}
use Rattle.ll_mp4.specs.declared.kind.Kind.TheVariants.{Moof, Traf, Tfhd}
use Rattle.ll_mp4.specs.declared.timing.DecodeTime.{DecodeTime}

-- a decode time and the number of ticks in a second of its track, if both are known
abbrev pub decode_time_by : Option ℕ → Option ℕ → Option DecodeTime
decode_time_by (Some scale) (Some time) = Some (record { time = time; scale = scale })
decode_time_by (Some scale) None = None
decode_time_by None time = None

-- the decode time of a track's fragment (section 8.8.6), or none if its header names no track of the movie or it has no such time; or its fault
abbrev pub decode_time_in : MovieValue → List ℕ → Result (Option DecodeTime) StreamFault
decode_time_in movie traf = do
  tfhd ← only Tfhd traf
  id ← number_at 4 tfhd
  time ← time_of traf
  Ok (decode_time_by (scale_of id movie.scales) time)

-- this decode time, or else the one of what comes later: faults are ignored
abbrev pub or_later : Result (Option DecodeTime) StreamFault → Option DecodeTime → Option DecodeTime
or_later (Ok (Some decode_time)) later = Some decode_time
or_later (Ok None) later = later
or_later (Err fault) later = later

-- the first decode time of the tracks' fragments
abbrev pub first_decode_time : MovieValue → Contents → Option DecodeTime
first_decode_time movie Ended = None
first_decode_time movie Broken = None
first_decode_time movie (Content traf later) = or_later (decode_time_in movie traf) (first_decode_time movie later)

-- the first decode time of the fragment in this box, if there is one
abbrev pub decode_time_of_moof : MovieValue → Result (Option (List ℕ)) StreamFault → Option DecodeTime
decode_time_of_moof movie (Ok (Some moof)) = first_decode_time movie (contents_in Traf moof)
decode_time_of_moof movie (Ok None) = None
decode_time_of_moof movie (Err fault) = None

-- the first decode time of a unit's fragment
abbrev pub decode_time_of : MovieValue → List ℕ → Option DecodeTime
decode_time_of movie unit = decode_time_of_moof movie (at_most_one Moof unit)

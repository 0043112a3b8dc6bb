-- The definitions at worked examples: a movie of sound and pictures, its fragments, and the units of a stream.
use Rattle.std.specs.Prelude.{◌≡◌, ℕ, ◌+◌, ◌^◌, ◌-◌, List, [], ◌∷◌, ◌++◌, take, true, false, Option, Some, None, Ok, Err, codes, length, replicate}
use Rattle.byteorder.specs.Endian.{big_bytes}
use Rattle.ll_mp4.specs.Elements.{element_of}
use Rattle.ll_mp4.specs.Kinds.{name}
use Rattle.ll_mp4.specs.Movies.{MovieValue}
use Rattle.ll_mp4.specs.Lefts.{at_front, fed}
use Rattle.ll_mp4.specs.Streams.{end_fault, front, told}
use Rattle.ll_mp4.specs.declared.element.Element.TheVariants.{Movie, Fragment, Beside}
use Rattle.ll_mp4.specs.declared.fault.StreamFault.TheVariants.{BadBox, Cut, Missing, NoMoov, OtherTrack, Several}
use Rattle.ll_mp4.specs.declared.kind.Kind.{Kind}
use Rattle.ll_mp4.specs.declared.kind.Kind.TheVariants.{Moov, Trak, Tkhd, Mdia, Mdhd, Mvex, Trex, Moof, Traf, Tfhd, Trun, Mdat, Hdlr, Tfdt, Mfra}
use Rattle.ll_mp4.specs.declared.timing.DecodeTime.{DecodeTime}
use Rattle.ll_mp4.specs.declared.timing.Timing.{Timing}

-- ---- boxes

-- a number of 32 bits
abbrev pub word : ℕ → List ℕ
word n = big_bytes 4 n

abbrev pub box : Kind → List ℕ → List ℕ
box kind content = word (length content + 8) ++ name kind ++ content

-- ---- a movie

-- a track with an ID, a number of ticks in a second and a type of media
abbrev pub trak : ℕ → ℕ → List ℕ → List ℕ
trak id scale media =
    box Trak (box Tkhd (replicate 12 0 ++ word id) ++ box Mdia (box Mdhd (replicate 12 0 ++ word scale) ++ box Hdlr (replicate 8 0 ++ media)))

-- sound and pictures; the defaults of pictures are samples of one tick and sync samples
abbrev pub movie : List ℕ
movie =
    box Moov (trak 1 48000 (codes "soun") ++ trak 2 25 (codes "vide")
    ++ box Mvex (box Trex (word 0 ++ word 2 ++ word 1 ++ word 1 ++ word 0 ++ word 0)))

abbrev pub movie_value : MovieValue
movie_value = record {
  scales = record { id = 1; scale = 48000 } ∷ record { id = 2; scale = 25 } ∷ [];
  governing = record { id = 2; scale = 25; duration = 1; flags = 0 };
}

-- ---- fragments

-- a fragment of a track, with a number of samples that have the defaults
abbrev pub traf : ℕ → List ℕ → ℕ → List ℕ
traf id tfdt samples = box Traf (box Tfhd (word 0 ++ word id) ++ tfdt ++ box Trun (word 0 ++ word samples))

-- a decode time of 32 bits, and one of 64 bits
abbrev pub short_time : ℕ → List ℕ
short_time tick = box Tfdt (word 0 ++ word tick)

abbrev pub long_time : ℕ → ℕ → List ℕ
long_time high low = box Tfdt (word (2 ^ 24) ++ word high ++ word low)

-- a fragment of pictures whose header says that samples aren't sync samples, and whose two samples have their
-- own durations
abbrev pub own_durations : List ℕ
own_durations =
    box Traf (box Tfhd (word 0x20 ++ word 2 ++ word 0x10000) ++ long_time 1 5 ++ box Trun (word 0x100 ++ word 2 ++ word 3 ++ word 4))

abbrev pub fragment : List ℕ → List ℕ
fragment trafs = box Moof trafs ++ box Mdat []

abbrev pub both : List ℕ
both = fragment (traf 1 (short_time 9) 7 ++ traf 2 (short_time 6) 3)

abbrev pub sound : List ℕ
sound = fragment (traf 1 (short_time 9) 7)

-- ---- what they say

abbrev pub timed : Option ℕ → ℕ → Timing
timed time ticks = record { time = time; ticks = ticks; sync = true }

-- a decode time of sound
abbrev pub decode_time : ℕ → DecodeTime
decode_time time = record { time = time; scale = 48000 }

pub record WorkedElements : Type 0 where
  pub a_movie : element_of None movie ≡ Ok (Movie movie_value)
  pub another_movie : element_of (Some movie_value) movie ≡ Ok (Movie movie_value)
  pub of_both : element_of (Some movie_value) both ≡ Ok (Fragment (timed (Some 6) 3))
  pub of_sound : element_of (Some movie_value) sound ≡ Ok (Beside (Some (decode_time 9)))
  pub no_time : element_of (Some movie_value) (fragment (traf 2 [] 3)) ≡ Ok (Fragment (timed None 3))
  pub own :
      element_of (Some movie_value) (fragment own_durations)
      ≡ Ok (Fragment (record { time = Some (2 ^ 32 + 5); ticks = 7; sync = false }))
  pub of_later_sound : element_of (Some movie_value) (fragment (traf 1 [] 7 ++ traf 1 (short_time 8) 7)) ≡ Ok (Beside (Some (decode_time 8)))
  -- a decode time in a box of version 2
  pub of_sound_later : element_of (Some movie_value) (fragment (traf 1 (box Tfdt (word (2 ^ 25) ++ word 7)) 7 ++ traf 1 (short_time 8) 7)) ≡ Ok (Beside (Some (decode_time 8)))
  pub untimed_sound : element_of (Some movie_value) (fragment (traf 1 [] 7)) ≡ Ok (Beside None)
  pub alone : element_of (Some movie_value) (box Mdat []) ≡ Ok (Beside None)
  pub no_movie : element_of None both ≡ Err NoMoov
  pub before_first : element_of None (box Moof [] ++ movie) ≡ Err NoMoov
  pub before_second : element_of (Some movie_value) (box Moof [] ++ movie) ≡ Err (Missing Mdat)
  pub unknown : element_of (Some movie_value) (fragment (traf 3 [] 1 ++ traf 2 [] 1)) ≡ Err OtherTrack
  pub twice : element_of (Some movie_value) (fragment (traf 2 [] 1 ++ traf 2 [] 1)) ≡ Err (Several Traf)
  pub no_track : element_of (Some movie_value) (fragment []) ≡ Err (Missing Traf)

-- ---- an index

-- the header of an `mfra` box of 64-bit size
abbrev pub large_index : ℕ → List ℕ
large_index size = word 1 ++ name Mfra ++ big_bytes 8 size

pub record WorkedIndex : Type 0 where
  -- between two movies, and several at the front
  pub between :
      told (at_front (box Mfra [] ++ movie ++ box Mfra (word 5) ++ box Mfra [] ++ movie ++ box Mfra []))
      ≡ record { units = movie ∷ movie ∷ []; fault = None }
  -- an `mfra` box that comes in two halves
  pub first_half : front (at_front (movie ++ take 10 (box Mfra (word 5)))) ≡ (Ok (Some movie), at_front (take 10 (box Mfra (word 5))))
  pub dropped_half : front (at_front (take 10 (box Mfra (word 5)))) ≡ (Ok None, record { skip = 2; unread = [] })
  pub second_half : front (fed (record { skip = 2; unread = [] }) (0 ∷ 5 ∷ movie)) ≡ (Ok (Some movie), at_front [])
  -- an `mfra` box of 2^40 bytes, of which few came
  pub large : front (at_front (large_index (2 ^ 40) ++ codes "few")) ≡ (Ok None, record { skip = 2 ^ 40 - 19; unread = [] })
  pub large_on : front (fed (record { skip = 2 ^ 40; unread = [] }) (codes "more")) ≡ (Ok None, record { skip = 2 ^ 40 - 4; unread = [] })
  -- torn at the end of the input
  pub torn : told (at_front (movie ++ take 10 (box Mfra (word 5)))) ≡ record { units = movie ∷ []; fault = Some Cut }
  -- inside a unit
  pub amid : told (at_front (box Moof [] ++ box Mfra [] ++ box Mdat [])) ≡ record { units = (box Moof [] ++ box Mfra [] ++ box Mdat []) ∷ []; fault = None }

pub record WorkedStream : Type 0 where
  pub elements : WorkedElements
  pub whole : told (at_front (movie ++ both ++ box Mdat [])) ≡ record { units = movie ∷ both ∷ box Mdat [] ∷ []; fault = None }
  -- a size of 0
  pub no_box : told (at_front (both ++ word 0 ++ codes "free")) ≡ record { units = both ∷ []; fault = Some BadBox }
  pub not_whole : end_fault (at_front (box Moof [])) ≡ Some (Missing Mdat)
  pub index : WorkedIndex

-- The definitions at worked examples: fragments of sound and of pictures, and the boxes beside them.
use Rattle.std.specs.Prelude.{◌≡◌, ℕ, ◌-◌, ◌^◌, List, [], ◌∷◌, ◌++◌, codes, replicate}
use Rattle.byteorder.specs.Endian.{big_bytes}
use Rattle.ll_mp4.specs.Worked.{box, long_time, short_time, word}
use Rattle.ll_mp4.specs.declared.kind.Kind.TheVariants.{Moof, Traf, Tfhd, Trun, Mdat, Sidx, Mfra, Prft, Emsg}
use Rattle.ll_mp4.specs.declared.track.TimeScale.{TimeScale}
use Rattle.ll_shift.specs.Moved.{moved}
use Rattle.ll_shift.specs.Plain.{plain}
use Rattle.ll_shift.specs.declared.shift.Shift.{Shift}

-- sound of 48,000 ticks in a second, and pictures of 25, which govern
abbrev pub scales : List TimeScale
scales = record { id = 1; scale = 48000 } ∷ record { id = 2; scale = 25 } ∷ []

-- what begins at 4 seconds continues at 2
abbrev pub earlier : Shift
earlier = record { base = 100; scale = 25; end = 2000000 }

-- what begins at 0 continues after a tick of pictures
abbrev pub one_tick : Shift
one_tick = record { base = 0; scale = 25; end = 40000 }

-- a track's fragment with these flags, whose samples are this many bytes away
abbrev pub traf : ℕ → ℕ → List ℕ → ℕ → List ℕ
traf flags id tfdt offset = box Traf (box Tfhd (word flags ++ word id) ++ tfdt ++ box Trun (word 1 ++ word 0 ++ word offset))

-- samples
abbrev pub mdat : List ℕ
mdat = box Mdat (7 ∷ 8 ∷ [])

-- the time at which a fragment of pictures was made
abbrev pub made : ℕ → List ℕ
made tick = box Prft (word 0 ++ word 2 ++ replicate 8 9 ++ word tick)

-- an event of 1,000 ticks in a second
abbrev pub event : ℕ → List ℕ
event tick = box Emsg (word (2 ^ 24) ++ word 1000 ++ word 0 ++ word tick ++ replicate 8 5)

pub record WorkedMoves : Type 0 where
  -- each track by its own time scale; an index is left out
  pub two_tracks :
      moved earlier scales (box Sidx (word 7) ++ box Moof (traf 0 2 (short_time 106) 88 ++ traf 0 1 (short_time 192009) 90) ++ mdat ++ box Mfra [])
      ≡ box Moof (traf 0 2 (short_time 56) 88 ++ traf 0 1 (short_time 96009) 90) ++ mdat
  -- a time of 64 bits
  pub long : moved earlier scales (box Moof (traf 0 2 (long_time 1 106) 88)) ≡ box Moof (traf 0 2 (long_time 1 56) 88)
  -- no time is negative
  pub negative : moved earlier scales (box Moof (traf 0 2 (short_time 49) 88)) ≡ box Moof (traf 0 2 (short_time 0) 88)
  -- a third track, whose time scale isn't known
  pub unknown : moved earlier scales (box Moof (traf 0 3 (short_time 106) 88)) ≡ box Moof (traf 0 3 (short_time 106) 88)
  -- One time grows to 64 bits. So the samples are 4 bytes later, if that is counted from the `moof`: for the first track's fragment, and for
  -- another that says so, but not for one with a base data offset.
  pub grows :
      moved one_tick scales
      (box Moof (traf 0 2 (short_time (2 ^ 32 - 1)) 88 ++ traf 0x20000 1 (short_time 5) 90 ++ traf 0 1 [] 91 ++ traf 0x20001 1 [] 92) ++ mdat)
      ≡ box Moof (traf 0 2 (long_time 1 0) 92 ++ traf 0x20000 1 (short_time 1925) 94 ++ traf 0 1 [] 91 ++ traf 0x20001 1 [] 92) ++ mdat
  -- an offset before the `moof` is one modulo 2^32
  pub before : moved one_tick scales (box Moof (traf 0 2 (short_time (2 ^ 32 - 1)) (2 ^ 32 - 3))) ≡ box Moof (traf 0 2 (long_time 1 0) 1)
  -- boxes beside fragments
  pub beside : moved earlier scales (made 106 ++ event 4500) ≡ made 56 ++ event 2500
  -- what a shift leaves alone: neither a time, nor how many bytes it has
  pub same_but_times :
      plain (box Moof (traf 0 2 (short_time (2 ^ 32 - 1)) 88) ++ mdat ++ made 106) ≡ plain (box Moof (traf 0 2 (long_time 1 0) 92) ++ mdat ++ made 56)
  pub samples_stand : plain mdat ≡ codes "mdat" ++ big_bytes 8 2 ++ 7 ∷ 8 ∷ []

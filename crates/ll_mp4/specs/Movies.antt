-- The tracks of a movie, the content of the `moov` box (ISO/IEC 14496-12, section 8.2.1).
use Rattle.std.specs.Prelude.{ℕ, ◌/◌, ◌^◌, ◌==◌, Bool, true, false, List, [], ◌∷◌, map, find, if◌then◌else◌, Option, unwrap_or, option_map, Result, Ok, Err}
use Rattle.ll_mp4.specs.Boxes.{Contents, Ended, Broken, Content, contents_in, only}
use Rattle.ll_mp4.specs.Numbers.{◌>>=◌, number_at}
use Rattle.ll_mp4.specs.declared.fault.StreamFault.{StreamFault}
use Rattle.ll_mp4.specs.declared.fault.StreamFault.TheVariants.{BadBox, Missing, NoTimeScale}
use Rattle.ll_mp4.specs.declared.kind.Kind.TheVariants.{Trak, Tkhd, Mdia, Mdhd, Hdlr, Mvex, Trex}
use Rattle.ll_mp4.specs.declared.track.Listed.{Listed}
use Rattle.ll_mp4.specs.declared.track.TimeScale.{TimeScale}
use Rattle.ll_mp4.specs.declared.track.Track.{Track}

-- ---- a track (section 8.3.1)

-- the place of the field after the two times: they have 32 bits in version 0 and 64 bits in version 1
abbrev pub after_times : ℕ → Result ℕ StreamFault
after_times version = if version == 0 then Ok 12 else if version == 1 then Ok 20 else Err BadBox

-- the field after the two times; before them are a version of 8 bits and flags of 24
abbrev pub timed_field : List ℕ → Result ℕ StreamFault
timed_field content = do
  word ← number_at 0 content
  place ← after_times (word / 2 ^ 24)
  number_at place content

-- the ID of a track (section 8.3.2)
abbrev pub id_of : List ℕ → Result ℕ StreamFault
id_of trak = do
  tkhd ← only Tkhd trak
  timed_field tkhd

abbrev pub not_0 : ℕ → Result ℕ StreamFault
not_0 scale = if scale == 0 then Err NoTimeScale else Ok scale

-- the number of ticks in a second (section 8.4.2)
abbrev pub ticks_of : List ℕ → Result ℕ StreamFault
ticks_of mdia = do
  mdhd ← only Mdhd mdia
  scale ← timed_field mdhd
  not_0 scale

-- `vide`
abbrev pub video : ℕ
video = 0x76696465

-- whether the first handler is one of pictures (section 8.4.3)
abbrev pub has_pictures : Contents → Result Bool StreamFault
has_pictures Ended = Ok false
has_pictures Broken = Err BadBox
has_pictures (Content hdlr later) = do
  handler ← number_at 8 hdlr
  Ok (handler == video)

-- a track with its time scale, and whether it has pictures
abbrev pub listed_of : List ℕ → Result Listed StreamFault
listed_of trak = do
  id ← id_of trak
  mdia ← only Mdia trak
  ticks ← ticks_of mdia
  pictures ← has_pictures (contents_in Hdlr mdia)
  Ok (record { scale = record { id = id; scale = ticks }; is_video = pictures })

-- ---- all tracks, and the one that governs

-- all tracks in order, or the first fault
abbrev pub listed_in : Contents → Result (List Listed) StreamFault
listed_in Ended = Ok []
listed_in Broken = Err BadBox
listed_in (Content trak later) = do
  track ← listed_of trak
  tracks ← listed_in later
  Ok (track ∷ tracks)

abbrev pub is_video : Listed → Bool
is_video track = track.is_video

-- the governing track: the first with pictures, or else the first
abbrev pub chosen_of : List Listed → Result Listed StreamFault
chosen_of [] = Err (Missing Trak)
chosen_of (track ∷ tracks) = Ok (unwrap_or (find is_video (track ∷ tracks)) track)

abbrev pub this_or : Bool → List ℕ → Result (List ℕ) StreamFault → Result (List ℕ) StreamFault
this_or true trex later = Ok trex
this_or false trex later = later

-- the first defaults for the track with this ID (section 8.8.3)
abbrev pub trex_for : ℕ → Contents → Result (List ℕ) StreamFault
trex_for id Ended = Err (Missing Trex)
trex_for id Broken = Err BadBox
trex_for id (Content trex later) = do
  of_track ← number_at 4 trex
  this_or (of_track == id) trex (trex_for id later)

-- a track with its defaults
abbrev pub with_defaults : TimeScale → List ℕ → Result Track StreamFault
with_defaults scale trex = do
  duration ← number_at 12 trex
  flags ← number_at 20 trex
  Ok (record { id = scale.id; scale = scale.scale; duration = duration; flags = flags })

-- a track with the defaults that the movie has for it (section 8.8.1)
abbrev pub defaults_in : List ℕ → TimeScale → Result Track StreamFault
defaults_in moov scale = do
  mvex ← only Mvex moov
  trex ← trex_for scale.id (contents_in Trex mvex)
  with_defaults scale trex

-- ---- a movie

-- the time scales of all tracks, and the governing track
pub record MovieValue : Type 0 where
  pub scales : List TimeScale
  pub governing : Track

-- the time scale of the first track with this ID
abbrev pub scale_of : ℕ → List TimeScale → Option ℕ
scale_of id scales = option_map (λ (t : TimeScale). t.scale) (find (λ (t : TimeScale). t.id == id) scales)

-- a movie's tracks, or the first fault
abbrev pub movie_of : List ℕ → Result MovieValue StreamFault
movie_of moov = do
  tracks ← listed_in (contents_in Trak moov)
  chosen ← chosen_of tracks
  governing ← defaults_in moov chosen.scale
  Ok (record { scales = map (λ (t : Listed). t.scale) tracks; governing = governing })

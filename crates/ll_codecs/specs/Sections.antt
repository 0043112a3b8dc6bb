-- What a Media Initialization Section says of its tracks (ISO/IEC 14496-12, section 8).
use Rattle.std.specs.Prelude.{ℕ, ◌+◌, ◌*◌, ◌/◌, ◌==◌, Bool, true, false, List, [], ◌∷◌, ◌++◌, if◌then◌else◌, Option, Some, None, Result, Ok, Err}
use Rattle.std.specs.Option.{option_or}
use Rattle.ll_codecs.specs.Children.{child, front}
use Rattle.ll_codecs.specs.Codecs.{codec_of}
use Rattle.ll_codecs.specs.Fields.{from, short_at}
use Rattle.ll_codecs.specs.declared.track.Picture.{Picture}
use Rattle.ll_codecs.specs.declared.track.CodecTrack.{CodecTrack}
use Rattle.ll_mp4.specs.Boxes.{Contents, Ended, Broken, Content, contents_in, only}
use Rattle.ll_mp4.specs.Movies.{has_pictures, movie_of}
use Rattle.ll_mp4.specs.Numbers.{◌>>=◌}
use Rattle.ll_mp4.specs.declared.fault.StreamFault.{StreamFault}
use Rattle.ll_mp4.specs.declared.fault.StreamFault.TheVariants.{BadBox}
use Rattle.ll_mp4.specs.declared.kind.Kind.TheVariants.{Hdlr, Mdia, Moov, Trak}

-- ---- a track

-- the size of the pictures of a sample entry (section 12.1.3)
abbrev pub size_in : List ℕ → Result (Option Picture) StreamFault
size_in entry = do
  width ← short_at 24 entry
  height ← short_at 26 entry
  Ok (Some (record { width = width; height = height }))

abbrev pub picture_by : Bool → List ℕ → Result (Option Picture) StreamFault
picture_by true entry = size_in entry
picture_by false entry = Ok None

-- the sample table of the media of a track (section 8.5.1): `stbl` in `minf`
abbrev pub sample_table : List ℕ → Result (List ℕ) StreamFault
sample_table mdia = do
  minf ← child 0x6d696e66 mdia
  child 0x7374626c minf

-- the boxes of its sample entries (section 8.5.2): `stsd`, after a version, flags and their number
abbrev pub entries_in : List ℕ → Result (List ℕ) StreamFault
entries_in mdia = do
  stbl ← sample_table mdia
  stsd ← child 0x73747364 stbl
  from 8 stsd

-- a track with the codec of its first sample entry, and the size of its pictures, if its handler is one of pictures
abbrev pub track_of : List ℕ → Result CodecTrack StreamFault
track_of trak = do
  mdia ← only Mdia trak
  pictures ← has_pictures (contents_in Hdlr mdia)
  entries ← entries_in mdia
  entry ← front entries
  codec ← codec_of entry.kind entry.content
  picture ← picture_by pictures entry.content
  Ok (record { codec = codec; picture = picture })

-- ---- all tracks

-- all tracks in order, or the first fault
abbrev pub tracks_in : Contents → Result (List CodecTrack) StreamFault
tracks_in Ended = Ok []
tracks_in Broken = Err BadBox
tracks_in (Content trak later) = do
  track ← track_of trak
  tracks ← tracks_in later
  Ok (track ∷ tracks)

-- the size of the pictures of the first track that has some
abbrev pub first_picture : List CodecTrack → Option Picture
first_picture [] = None
first_picture (track ∷ tracks) = option_or track.picture (first_picture tracks)

-- how many samples a second the defaults of a track have (section 8.8.3), in thousandths, rounded to the nearest; none if these have no duration
abbrev pub rate_by : ℕ → ℕ → Option ℕ
rate_by scale duration = if duration == 0 then None else Some ((scale * 1000 + duration / 2) / duration)

-- ---- a section

pub record SectionValue : Type 0 where
  pub tracks : List CodecTrack
  -- the rate of the track that governs: the first with pictures, or else the first
  pub rate : Option ℕ

-- the tracks of a section, or its first fault
abbrev pub section_of : List ℕ → Result SectionValue StreamFault
section_of bytes = do
  moov ← only Moov bytes
  movie ← movie_of moov
  tracks ← tracks_in (contents_in Trak moov)
  Ok (record { tracks = tracks; rate = rate_by movie.governing.scale movie.governing.duration })

-- for private contracts: the tracks after those before
abbrev pub tracks_after : List CodecTrack → Result (List CodecTrack) StreamFault → Result (List CodecTrack) StreamFault
tracks_after before (Err fault) = Err fault
tracks_after before (Ok tracks) = Ok (before ++ tracks)

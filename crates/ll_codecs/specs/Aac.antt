-- The codec of `mp4a` sound: the descriptors of its `esds` box (ISO/IEC 14496-1, section 7.2.6; ISO/IEC 14496-14, section 3.1.2; RFC 6381,
-- section 3.3).
use Rattle.std.specs.Prelude.{ℕ, ◌+◌, ◌*◌, ◌/◌, ◌%◌, ◌==◌, List, [], ◌∷◌, ◌++◌, codes, decimal, nat_lt, if◌then◌else◌, Result, Ok, Err}
use Rattle.ll_codecs.specs.Children.{child}
use Rattle.ll_codecs.specs.Entries.{sound_boxes}
use Rattle.ll_codecs.specs.Fields.{byte_at, from}
use Rattle.ll_codecs.specs.Spelling.{hex_byte}
use Rattle.ll_mp4.specs.Numbers.{◌>>=◌}
use Rattle.ll_mp4.specs.declared.fault.StreamFault.{StreamFault}
use Rattle.ll_mp4.specs.declared.fault.StreamFault.TheVariants.{BadBox}

-- `esds`
abbrev pub sound_config : ℕ
sound_config = 0x65736473

-- ---- descriptors

-- what follows the size of a descriptor: its last byte is the first that is less than 128 (14496-1, section 8.3.3)
abbrev pub past_size : List ℕ → Result (List ℕ) StreamFault
past_size [] = Err BadBox
past_size (byte ∷ rest) = if nat_lt byte 128 then Ok rest else past_size rest

abbrev pub of_tag : ℕ → ℕ → List ℕ → Result (List ℕ) StreamFault
of_tag tag byte rest = if byte == tag then past_size rest else Err BadBox

-- the bytes after the tag and the size of the descriptor at the front, which has this tag
abbrev pub descriptor : ℕ → List ℕ → Result (List ℕ) StreamFault
descriptor tag [] = Err BadBox
descriptor tag (byte ∷ rest) = of_tag tag byte rest

-- The bytes of the decoder's configuration. Before it are the version and the flags of the box, and of the first descriptor a number and flags: in
-- a file none of these flags is set, so nothing else comes before it.
abbrev pub decoder : List ℕ → Result (List ℕ) StreamFault
decoder content = do
  first ← from 4 content
  stream ← descriptor 3 first
  second ← from 3 stream
  descriptor 4 second

-- ---- the codec

-- the type of sound objects, in the first five bits, or in the six bits after them if they are 31 (ISO/IEC 14496-3, section 1.6.2.1)
abbrev pub object_type : ℕ → ℕ → ℕ
object_type first second = if first / 8 == 31 then 32 + first % 8 * 8 + second / 32 else first / 8

unfoldable pub aac_text : ℕ → List ℕ
aac_text kind = codes "mp4a.40." ++ decimal kind

unfoldable pub other_text : ℕ → List ℕ
other_text kind = codes "mp4a." ++ hex_byte kind

-- the codec of MPEG-4 sound: after 13 bytes of the decoder's configuration comes that of the sound itself, of two bytes or more
abbrev pub aac : List ℕ → Result (List ℕ) StreamFault
aac config = do
  rest ← from 13 config
  specific ← descriptor 5 rest
  first ← byte_at 0 specific
  second ← byte_at 1 specific
  Ok (aac_text (object_type first second))

-- MPEG-4 sound has the object type 0x40
abbrev pub sound_by : ℕ → List ℕ → Result (List ℕ) StreamFault
sound_by kind config = if kind == 0x40 then aac config else Ok (other_text kind)

-- the codec of a sample entry of the type `mp4a`
abbrev pub sound : List ℕ → Result (List ℕ) StreamFault
sound entry = do
  boxes ← sound_boxes entry
  content ← child sound_config boxes
  config ← decoder content
  kind ← byte_at 0 config
  sound_by kind config

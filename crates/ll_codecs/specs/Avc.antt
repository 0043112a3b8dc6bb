-- The codec of AVC video (ISO/IEC 14496-15; RFC 6381, section 3.3).
use Rattle.std.specs.Prelude.{ℕ, List, ◌++◌, codes, Result, Ok}
use Rattle.ll_codecs.specs.Children.{child}
use Rattle.ll_codecs.specs.Entries.{video_boxes}
use Rattle.ll_codecs.specs.Fields.{byte_at}
use Rattle.ll_codecs.specs.Spelling.{hex_byte}
use Rattle.ll_mp4.specs.Numbers.{◌>>=◌}
use Rattle.ll_mp4.specs.declared.fault.StreamFault.{StreamFault}

-- `avcC`
abbrev pub avc_config : ℕ
avc_config = 0x61766343

-- the bytes of the profile, of the constraint flags and of the level, after the version of the configuration
unfoldable pub avc_text : List ℕ → ℕ → ℕ → ℕ → List ℕ
avc_text name profile flags level = name ++ (codes "." ++ (hex_byte profile ++ (hex_byte flags ++ hex_byte level)))

-- the codec of a sample entry of this name
abbrev pub avc : List ℕ → List ℕ → Result (List ℕ) StreamFault
avc name entry = do
  boxes ← video_boxes entry
  config ← child avc_config boxes
  profile ← byte_at 1 config
  flags ← byte_at 2 config
  level ← byte_at 3 config
  Ok (avc_text name profile flags level)

-- The codec of AV1 video (AV1 Codec ISO Media File Format Binding, sections 2.3.3 and 5).
use Rattle.std.specs.Prelude.{ℕ, ◌/◌, ◌%◌, ◌==◌, ◌&&◌, List, ◌++◌, codes, decimal, if◌then◌else◌, Result, Ok}
use Rattle.ll_codecs.specs.Children.{child}
use Rattle.ll_codecs.specs.Entries.{video_boxes}
use Rattle.ll_codecs.specs.Fields.{byte_at}
use Rattle.ll_codecs.specs.Spelling.{two_digits}
use Rattle.ll_mp4.specs.Numbers.{◌>>=◌}
use Rattle.ll_mp4.specs.declared.fault.StreamFault.{StreamFault}

-- `av1C`
abbrev pub av1_config : ℕ
av1_config = 0x61763143

-- the tier, in the highest bit
abbrev pub av1_tier : ℕ → List ℕ
av1_tier flags = if flags / 128 == 0 then codes "M" else codes "H"

-- the depth, in the next two bits: with both set 12 bits in profile 2
abbrev pub av1_depth : ℕ → ℕ → List ℕ
av1_depth profile flags =
    if flags / 64 % 2 == 0 then codes "08"
    else if profile == 2 && flags / 32 % 2 == 1 then codes "12"
    else codes "10"

-- the profile and the level, which share a byte; the tier and the depth
unfoldable pub av1_text : ℕ → ℕ → List ℕ
av1_text profile flags =
    codes "av01." ++ (decimal (profile / 32) ++ (codes "." ++ (two_digits (profile % 32) ++ (av1_tier flags ++ (codes "." ++ av1_depth (profile / 32) flags)))))

-- the codec of a sample entry of the type `av01`
abbrev pub av1 : List ℕ → Result (List ℕ) StreamFault
av1 entry = do
  boxes ← video_boxes entry
  config ← child av1_config boxes
  profile ← byte_at 1 config
  flags ← byte_at 2 config
  Ok (av1_text profile flags)

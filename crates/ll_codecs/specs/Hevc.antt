-- The codec of HEVC video (ISO/IEC 14496-15, sections 8.3.3.1 and E.3).
use Rattle.std.specs.Prelude.{ℕ, zero, suc, ◌+◌, ◌*◌, ◌/◌, ◌%◌, ◌==◌, List, [], ◌∷◌, ◌++◌, true, codes, decimal, take, if◌then◌else◌, Result, Ok}
use Rattle.std.specs.Fmt.{digits}
use Rattle.std.specs.List.{flat_map}
use Rattle.ll_codecs.specs.Children.{child}
use Rattle.ll_codecs.specs.Entries.{video_boxes}
use Rattle.ll_codecs.specs.Fields.{byte_at, from}
use Rattle.ll_mp4.specs.Numbers.{◌>>=◌, number_at}
use Rattle.ll_mp4.specs.declared.fault.StreamFault.{StreamFault}

-- `hvcC`
abbrev pub hevc_config : ℕ
hevc_config = 0x68766343

-- the profile space: none, or a letter
abbrev pub space_text : ℕ → List ℕ
space_text space = if space == 0 then [] else if space == 1 then codes "A" else if space == 2 then codes "B" else codes "C"

-- the tier
abbrev pub tier_text : ℕ → List ℕ
tier_text tier = if tier == 0 then codes "L" else codes "H"

-- a number, and after its bits the lowest k bits of n, the lowest of them first
abbrev pub reversed : ℕ → ℕ → ℕ → ℕ
reversed zero before n = before
reversed (suc k) before n = reversed k (before * 2 + n % 2) (n / 2)

-- bytes without the last ones that are 0
abbrev pub before_zeros : ℕ → List ℕ → List ℕ
before_zeros byte [] = if byte == 0 then [] else byte ∷ []
before_zeros byte (next ∷ more) = byte ∷ next ∷ more

abbrev pub without_zeros : List ℕ → List ℕ
without_zeros [] = []
without_zeros (byte ∷ more) = before_zeros byte (without_zeros more)

-- a byte after a point
unfoldable pub flag_text : ℕ → List ℕ
flag_text byte = codes "." ++ digits 16 true byte

abbrev pub flags_text : List ℕ → List ℕ
flags_text flags = flat_map flag_text flags

-- the constraint flags but for the last bytes that are 0
abbrev pub constraint_text : List ℕ → List ℕ
constraint_text flags = flags_text (without_zeros flags)

-- the profile, its compatibility flags, the tier and the level
unfoldable pub hevc_text : List ℕ → ℕ → ℕ → ℕ → List ℕ
hevc_text name profile compatible level =
    name ++ (codes "." ++ (space_text (profile / 64) ++ (decimal (profile % 32) ++ (codes "." ++ (digits 16 true (reversed 32 0 compatible)
    ++ (codes "." ++ (tier_text (profile / 32 % 2) ++ decimal level)))))))

-- the codec of a sample entry of this name
abbrev pub hevc : List ℕ → List ℕ → Result (List ℕ) StreamFault
hevc name entry = do
  boxes ← video_boxes entry
  config ← child hevc_config boxes
  profile ← byte_at 1 config
  compatible ← number_at 2 config
  flags ← from 6 config
  level ← byte_at 12 config
  Ok (hevc_text name profile compatible level ++ constraint_text (take 6 flags))

-- The boxes in sample entries (ISO/IEC 14496-12, section 12).
use Rattle.std.specs.Prelude.{ℕ, List, Result}
use Rattle.ll_codecs.specs.Fields.{from}
use Rattle.ll_mp4.specs.declared.fault.StreamFault.{StreamFault}

-- they follow the fields of pictures (section 12.1.3)
abbrev pub video_boxes : List ℕ → Result (List ℕ) StreamFault
video_boxes entry = from 78 entry

-- and those of sound (section 12.2.3)
abbrev pub sound_boxes : List ℕ → Result (List ℕ) StreamFault
sound_boxes entry = from 28 entry

-- The codec of a sample entry, as RFC 6381 spells it.
use Rattle.std.specs.Prelude.{ℕ, ◌/◌, ◌%◌, ◌^◌, ◌==◌, ◌||◌, Bool, List, [], ◌∷◌, codes, if◌then◌else◌, Option, Some, None, Result, Ok, Err}
use Rattle.std.specs.Char.{is_ascii_digit, is_ascii_lowercase, is_ascii_uppercase}
use Rattle.std.specs.List.{list_all}
use Rattle.std.specs.Str.{is_utf8}
use Rattle.ll_codecs.specs.Aac.{sound}
use Rattle.ll_codecs.specs.Av1.{av1}
use Rattle.ll_codecs.specs.Avc.{avc}
use Rattle.ll_codecs.specs.Hevc.{hevc}
use Rattle.ll_mp4.specs.declared.fault.StreamFault.{StreamFault}
use Rattle.ll_mp4.specs.declared.fault.StreamFault.TheVariants.{BadBox}

-- the four characters of a type
abbrev pub characters : ℕ → List ℕ
characters kind = kind / 2 ^ 24 ∷ kind / 2 ^ 16 % 256 ∷ kind / 2 ^ 8 % 256 ∷ kind % 256 ∷ []

-- a letter, a digit or a hyphen
abbrev pub is_plain_byte : ℕ → Bool
is_plain_byte b = is_ascii_lowercase b || is_ascii_uppercase b || is_ascii_digit b || b == 45

-- bytes that are text
abbrev pub text_in : List ℕ → Option (List ℕ)
text_in bytes = if is_utf8 bytes then Some bytes else None

abbrev pub plain_text : Option (List ℕ) → Result (List ℕ) StreamFault
plain_text None = Err BadBox
plain_text (Some text) = if list_all is_plain_byte text then Ok text else Err BadBox

-- the codec of a type whose configuration isn't read: its characters
abbrev pub plain : ℕ → Result (List ℕ) StreamFault
plain kind = plain_text (text_in (characters kind))

-- the codec of a sample entry of this type: `avc1`, `avc3`, `hvc1`, `hev1`, `av01`, `mp4a` or another
abbrev pub codec_of : ℕ → List ℕ → Result (List ℕ) StreamFault
codec_of kind entry =
    if kind == 0x61766331 then avc (codes "avc1") entry
    else if kind == 0x61766333 then avc (codes "avc3") entry
    else if kind == 0x68766331 then hevc (codes "hvc1") entry
    else if kind == 0x68657631 then hevc (codes "hev1") entry
    else if kind == 0x61763031 then av1 entry
    else if kind == 0x6d703461 then sound entry
    else plain kind

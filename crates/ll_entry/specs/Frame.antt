-- The frame of a chunk, in each format: the lines before its entries and after them, as they are written and read.
use Rattle.std.specs.Prelude.{List, [], ◌∷◌, ◌++◌, ℕ, Bool, true, false, codes, decimal}
use Rattle.ll_attr.specs.Words.{after}
use Rattle.ll_entry.specs.Replies.{count}
use Rattle.ll_entry.specs.declared.version.Version.{Version}
use Rattle.ll_entry.specs.declared.version.Version.TheVariants.{One, Two}
use Rattle.ll_format.specs.Format.{Word, ◌>>=◌, one_of}

abbrev pub first_line : Version → List ℕ
first_line One = codes "#LLHLS-CHUNK 1"
first_line Two = codes "#LLHLS-CHUNK 2"

-- the first line of a chunk, which names its format
abbrev pub version : Word Version
version = one_of first_line (One ∷ Two ∷ [])

-- the third line, `at N`: how many entries of its chain come before the chunk
abbrev pub place : Word ℕ
place = record {
  print = λ n. codes "at " ++ decimal n;
  read = λ line. after (codes "at ") line >>= count.read;
  Within = count.Within;
}

-- the last line
abbrev pub last_line : List ℕ
last_line = codes "#END"

-- the first three lines: the second is that of the settings
unfoldable pub header_text : Version → List ℕ → ℕ → List ℕ
header_text v settings at = version.print v ++ (codes "\n" ++ (settings ++ (codes "\n" ++ (place.print at ++ codes "\n"))))

-- whether a chunk of the first format can't follow one of the second in a chain
abbrev pub is_older : Version → Version → Bool
is_older One Two = true
is_older One One = false
is_older Two other = false

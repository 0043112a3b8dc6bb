-- The laws of a line.
use Rattle.std.specs.Prelude.{◌≡◌, ℕ, List, true, Some}
use Rattle.ll_format.specs.Words.{is_one_line}
use Rattle.ll_line.specs.Formats.{line}
use Rattle.ll_line.specs.Line.{Line}

-- a line that is parsed is within its bounds, and is written as it was
abbrev pub ReadIsSpelled : Type 0
ReadIsSpelled = (text : List ℕ) (l : Line) → line.read text ≡ Some l → (text ≡ line.print l) × line.Within l

-- a line within its bounds is parsed again from what is written
abbrev pub SpelledIsRead : Type 0
SpelledIsRead = (l : Line) → line.Within l → line.read (line.print l) ≡ Some l

-- a line within its bounds is written without CR and LF
abbrev pub OnOneLine : Type 0
OnOneLine = (l : Line) → line.Within l → is_one_line (line.print l) ≡ true

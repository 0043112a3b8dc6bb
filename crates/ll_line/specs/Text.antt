-- The text of lines, each with its end.
use Rattle.std.specs.Prelude.{ℕ, List, ◌++◌, codes, flat_map}
use Rattle.ll_line.specs.Formats.{line}
use Rattle.ll_line.specs.Line.{Line}

-- a line with LF at its end
unfoldable pub line_text : Line → List ℕ
line_text l = line.print l ++ codes "\n"

-- lines, each with LF at its end
abbrev pub text_of : List Line → List ℕ
text_of lines = flat_map line_text lines

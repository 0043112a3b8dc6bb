-- For private contracts: the outline of lines, whether they are allowed in their places or not.
use Rattle.std.specs.Prelude.{ℕ, ◌+◌, List, [], ◌∷◌, Option, Some, None}
use Rattle.std.specs.Str.Lines.{strip_carriage_return}
use Rattle.ll_line.specs.Formats.{line_in}
use Rattle.ll_line.specs.Line.{Line, MediaSequence, Skipped, Uri}
use Rattle.ll_read.specs.declared.outline.Outline.{Outline}

abbrev pub with_line : Line → Outline → Outline
with_line (MediaSequence n) o = record o { sequence = n }
with_line (Skipped skip) o = record o { skipped = Some skip.count }
with_line (Uri uri) o = record o { segments = o.segments + 1 }
with_line line o = o

abbrev pub with_read : Option Line → Outline → Outline
with_read None o = o
with_read (Some line) o = with_line line o

-- what follows the last LF is no line
abbrev pub outline_from : Outline → List (List ℕ) → Outline
outline_from o [] = o
outline_from o (rest ∷ []) = o
outline_from o (line ∷ below ∷ more) = outline_from (with_read (line_in (strip_carriage_return line)) o) (below ∷ more)

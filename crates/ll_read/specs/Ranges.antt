-- Date ranges, and the entries of a map of them.
use Rattle.std.specs.Prelude.{ℕ, List, [], ◌∷◌, ◌++◌, Bool, Option, Some, None, string_bytes, bytes_eq}
use Rattle.std.specs.Str.Lines.{strip_carriage_return}
use Rattle.ll_line.specs.Line.{DateRange, DateRangeLine, Line}
use Rattle.ll_line.specs.Formats.{line_in}
use Rattle.std.specs.List.{list_any}
use Rattle.std.specs.declared.string.String.{String}

-- an entry of the map, as a date range
abbrev pub range_at : {A : Type 0} → String A × List ℕ → DateRangeLine
range_at entry = record { id = string_bytes entry.0; attributes = entry.1 }

-- whether one of the date ranges has this id (section 4.4.5.1)
abbrev pub has_id : List ℕ → List DateRangeLine → Bool
has_id id ranges = list_any (λ (range : DateRangeLine). bytes_eq id range.id) ranges

-- the date range that a line is, if it is one
abbrev pub range_of : Line → List DateRangeLine
range_of (DateRange range) = range ∷ []
range_of line = []

abbrev pub ranges_in : Option Line → List DateRangeLine
ranges_in None = []
ranges_in (Some line) = range_of line

-- the date ranges among `lines`
abbrev pub ranges_of : List (List ℕ) → List DateRangeLine
ranges_of [] = []
ranges_of (line ∷ lines) = ranges_in (line_in (strip_carriage_return line)) ++ ranges_of lines

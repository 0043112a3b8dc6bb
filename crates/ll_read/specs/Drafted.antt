-- For private contracts: a draft that is dropped once memory is refused.
use Rattle.std.specs.Prelude.{◌≡◌, ℕ, List, Bool, true, false, Option, Some, None}
use Rattle.ll_line.specs.Line.{DateRange, Hint, Line, Map, Part, RenditionReport, Skipped, Time, Uri}
use Rattle.ll_read.specs.Draft.{Draft}
use Rattle.ll_read.specs.Ranges.{ranges_of}

-- whether a line adds texts, or ends a segment
abbrev pub takes_memory : Line → Bool
takes_memory (DateRange range) = true
takes_memory (Skipped skip) = true
takes_memory (Map uri) = true
takes_memory (Time time) = true
takes_memory (Part part) = true
takes_memory (Uri uri) = true
takes_memory (RenditionReport r) = true
takes_memory (Hint uri) = true
takes_memory line = false

-- a draft that wasn't dropped is `d`
abbrev pub drafted : Option Draft → Draft → Type 0
drafted None d = Unit {0}
drafted (Some e) d = e ≡ d

-- and the date ranges of `d` are those of `lines`
abbrev pub IsAfter : List (List ℕ) → Option Draft → Draft → Type 0
IsAfter lines draft d = drafted draft d × (d.playlist.ranges ≡ ranges_of lines)

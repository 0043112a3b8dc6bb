-- A script as a stream of bytes, and what a run of it has written. Its lines end in LF or CR LF; the last end may be missing.
use Rattle.std.specs.Prelude.{◌≡◌, ◌≤◌, ◌+◌, ℕ, List, ◌∷◌, ◌++◌, Option, Some, None, fold, length, map}
use Rattle.std.specs.Io.KnownBytes.{Appends, Consumes}
use Rattle.std.specs.Str.Lines.{lines}
use Rattle.ll_device.specs.Written.{AppendsPrefix}
use Rattle.ll_replay.specs.Pieces.{ended_pieces, last_piece, pieces}
use Rattle.ll_replay.specs.declared.outcome.RunSummary.{RunSummary}
use Rattle.ll_replay.specs.Script.{Marked, Script, Ending, start, line, longest_line, summary_of, unmarked}

-- the text of a line
abbrev pub text_of : Marked → List ℕ
text_of l = l.text

-- `list` is the lines of the script `bytes`, each marked with lots
abbrev pub AreLines : List ℕ → List Marked → Type 0
AreLines bytes list = map text_of list ≡ lines bytes

-- the script after these lines
abbrev pub come_to : List Marked → Script
come_to list = fold line start list

-- the script after all its lines, with memory for everything
abbrev pub world_of : List ℕ → Script
world_of bytes = come_to (map unmarked (lines bytes))

-- the text that is written for a script, with memory for everything
abbrev pub script : List ℕ → List ℕ
script bytes = (world_of bytes).text

-- the whole script `input` was run, with some lots, its text was written since `base`, and `summary` has its counts
abbrev pub IsWhole : Option (List ℕ) → Option (List ℕ) → List ℕ → RunSummary → Type 0
IsWhole base written input summary =
    (list : List Marked) × AreLines input list
    × ((come_to list).ending ≡ None) × (summary ≡ summary_of (come_to list)) × Appends base written (come_to list).text

-- a line ended the script `input` early, and its whole text was written since `base`
abbrev pub EndsBy : Ending → Option (List ℕ) → Option (List ℕ) → List ℕ → Type 0
EndsBy ending base written input =
    (list : List Marked) × AreLines input list × ((come_to list).ending ≡ Some ending) × Appends base written (come_to list).text

-- a prefix of the text of the script `input` was written since `base`
abbrev pub IsBegun : Option (List ℕ) → Option (List ℕ) → List ℕ → Type 0
IsBegun base written input = (list : List Marked) × AreLines input list × AppendsPrefix base written (come_to list).text

-- a run stopped in the step from the script `before` to the script `after`, which doesn't end it early: the text of the first was
-- written since `base`, and then a prefix of what the step adds
abbrev pub StopsBetween : (base written : Option (List ℕ)) → (before after : Script) → Type 0
StopsBetween base written before after =
    (prefix : List ℕ) × (rest : List ℕ) × (after.text ≡ before.text ++ (prefix ++ rest)) × Appends base written (before.text ++ prefix)
    × (after.ending ≡ None)

-- a run stopped at a line that is allowed after the lines before it: their answers were written since `base`, and then a prefix of
-- this line's
abbrev pub StopsForMemory : Option (List ℕ) → Option (List ℕ) → List ℕ → Type 0
StopsForMemory base written input =
    (before : List Marked) × (l : Marked) × (later : List (List ℕ)) × (lines input ≡ map text_of before ++ l.text ∷ later)
    × StopsBetween base written (come_to before) (line (come_to before) l)

-- the lines of a script that an LF ends
abbrev pub ended_lines : List ℕ → List (List ℕ)
ended_lines bytes = ended_pieces (pieces bytes)

-- the bytes after the last LF
abbrev pub open_line : List ℕ → List ℕ
open_line bytes = last_piece (pieces bytes)

-- a run stopped after some bytes, of which each line that an LF ends was run since `base`; none of these ends the script early, and the
-- bytes after the last LF are no more than those of the longest line with its CR
abbrev pub StopsAfter : (before after base written : Option (List ℕ)) → Type 0
StopsAfter before after base written =
    (bytes : List ℕ) × (list : List Marked) × Consumes before after bytes × (map text_of list ≡ ended_lines bytes) × ((come_to list).ending ≡ None)
    × (length (open_line bytes) ≤ longest_line + 1) × Appends base written (come_to list).text

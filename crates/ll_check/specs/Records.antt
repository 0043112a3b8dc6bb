-- Which texts are found right, in terms of channels and their events.
use Rattle.std.specs.Prelude.{◌≡◌, ◌↔◌, ◌≤◌, ◌+◌, ℕ, List, [], ◌∷◌, ◌++◌, Bool, true, not, ◌&&◌, Some, Ok, All, codes, decimal, length, map}
use Rattle.std.specs.List.{flat_map}
use Rattle.std.specs.Str.{is_utf8}
use Rattle.ll_attr.specs.Words.{pieces_at}
use Rattle.ll_entry.specs.Chain.{checked}
use Rattle.ll_entry.specs.Entries.{entry_in}
use Rattle.ll_entry.specs.Told.{as_told, entry_of}
use Rattle.ll_entry.specs.Frame.{first_line, is_older, last_line}
use Rattle.ll_entry.specs.declared.entry.Recorded.{Recorded}
use Rattle.ll_entry.specs.declared.version.Version.{Version}
use Rattle.ll_settings.specs.Settings.{Configuration, settings_in}
use Rattle.ll_verdict.specs.Events.{Event, Step, steps}

-- one chunk
pub record Chunk : Type 0 where
  pub version : Version
  -- the line of the channel's settings
  pub settings : List ℕ
  -- the lines of its entries
  pub entries : List (List ℕ)

-- what happened to a channel from one start of it to the next, and the chunks with it
pub record Run : Type 0 where
  pub settings : Configuration
  pub events : List Event
  pub first : Chunk
  pub others : List Chunk

abbrev pub chunks : Run → List Chunk
chunks r = r.first ∷ r.others

-- ---- the text

-- The texts between the line feeds of these chunks, with `at` entries of their run before them, and of the lines after them.
abbrev pub chunk_lines : ℕ → List Chunk → List (List ℕ) → List (List ℕ)
chunk_lines at [] after = after
chunk_lines at (k ∷ more) after =
    first_line k.version ∷ k.settings ∷ (codes "at " ++ decimal at) ∷ (k.entries ++ last_line ∷ chunk_lines (at + length k.entries) more after)

-- The texts between the line feeds of these runs. Each line has its end, so nothing follows the last one.
abbrev pub lines_of : List Run → List (List ℕ)
lines_of [] = [] ∷ []
lines_of (r ∷ more) = chunk_lines 0 (chunks r) (lines_of more)

-- ---- what it says

-- the lines of a chunk's entries, each in the format of the chunk
abbrev pub entries_in : Chunk → List (Version × List ℕ)
entries_in k = map (λ line. (k.version, line)) k.entries

-- a line is read as what its format keeps of the entry of an event that can happen
pub record IsToldBy (c : Configuration) (line : Version × List ℕ) (s : Step) : Type 0 where
  pub entry : Recorded
  pub happens : entry_of c s ≡ Some entry
  pub read : entry_in line.0 c line.1 ≡ Ok (as_told line.0 entry)

-- these lines have these events, each one of them, in order
abbrev pub AreToldBy : Configuration → List (Version × List ℕ) → List Step → Type 0
AreToldBy c [] [] = Unit
AreToldBy c (line ∷ lines) (s ∷ more) = IsToldBy c line s × AreToldBy c lines more
AreToldBy c lines more = ⊥

-- after a chunk of this format, no chunk is of the first format after one of the second
abbrev pub are_in_order : Version → List Chunk → Bool
are_in_order version [] = true
are_in_order version (k ∷ more) = not (is_older k.version version) && are_in_order k.version more

-- The chunks of a run each name its channel and its settings, and have its events. A chunk with no entries before it begins a run, so the
-- first has an entry if others follow.
pub record IsRun (r : Run) : Type 0 where
  pub named : All (λ (k : Chunk). settings_in k.settings ≡ Ok r.settings) (chunks r)
  pub in_order : are_in_order r.first.version r.others ≡ true
  pub begun : 1 ≤ length r.others → 1 ≤ length r.first.entries
  pub told : AreToldBy r.settings (flat_map entries_in (chunks r)) (steps r.events)

-- the number of events of these runs
abbrev pub events_in : List Run → ℕ
events_in [] = 0
events_in (r ∷ more) = length r.events + events_in more

-- A text is the record of one run of a channel or more, with `n` events in all.
pub record IsRecord (text : List ℕ) (n : ℕ) : Type 0 where
  pub channel : List ℕ
  pub runs : List Run
  pub some : 1 ≤ length runs
  pub right : All IsRun runs
  pub named : All (λ (r : Run). r.settings.channel ≡ channel) runs
  pub lines : pieces_at 10 text ≡ lines_of runs
  pub utf8 : All (λ line. is_utf8 line ≡ true) (lines_of runs)
  pub many : events_in runs ≡ n

-- a text is found right, with `n` entries, exactly if it is the record of `n` events of some channel
abbrev pub RecordLaw : Type 0
RecordLaw = (text : List ℕ) (n : ℕ) → (checked text ≡ Ok n) ↔ IsRecord text n

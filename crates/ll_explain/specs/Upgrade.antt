-- A record in format 2, whichever formats its chunks are in.
use Rattle.std.specs.Prelude.{◌≡◌, ◌<◌, ◌≤◌, ℕ, List, [], ◌∷◌, ◌++◌, Bool, true, false, Option, Some, None, Result, Ok, Err, bytes_eq, codes, if◌then◌else◌, length}
use Rattle.std.specs.Io.KnownBytes.{Appends}
use Rattle.std.specs.List.{AllZip}
use Rattle.std.specs.Option.{option_map_or}
use Rattle.ll_attr.specs.Words.{after, pieces_at}
use Rattle.ll_check.specs.Records.{Chunk, IsRecord, Run, chunks}
use Rattle.ll_check.specs.Steps.{full_entry}
use Rattle.ll_entry_check.specs.Full.{without_item}
use Rattle.ll_entry_check.specs.declared.full.FullEntry.{FullEntry}
use Rattle.ll_entry_check.specs.declared.full.FullEntry.TheVariants as full
use Rattle.ll_check.specs.declared.told.Told.{Told}
use Rattle.ll_check.specs.declared.told.Told.TheVariants as told
use Rattle.ll_entry.specs.Chain.{Between, Chain, Inside, Position, begun, text_in, with_line}
use Rattle.ll_entry.specs.Entries.{is_part_line}
use Rattle.ll_entry.specs.Frame.{header_text, last_line}
use Rattle.ll_entry.specs.Leads.{with_end}
use Rattle.ll_entry.specs.Lines.{entry_line}
use Rattle.ll_entry.specs.declared.entry.Recorded.TheVariants.{Ask, Collect}
use Rattle.ll_entry.specs.declared.fault.CheckKind.{CheckKind}
use Rattle.ll_entry.specs.declared.version.Version.{Version}
use Rattle.ll_entry.specs.declared.version.Version.TheVariants.{One, Two}
use Rattle.ll_settings.specs.Settings.{Configuration}

-- what follows the words of an item in format 2: after a part the length of its media, which is 0
abbrev pub media_text : List ℕ → List ℕ
media_text line = if option_map_or is_part_line (after (codes "P ") line) false then codes " 0" else []

-- The line of an entry in format 2, given its line in a format. An item's words stay as they are. A request asks for the delta update that
-- it was answered with in format 1, and a playlist has the delta update that it is.
abbrev pub upgraded_line : Version → Configuration → List ℕ → FullEntry → List ℕ
upgraded_line Two c line entry = line
upgraded_line One c line full.Publish = line ++ media_text line
upgraded_line One c line (full.Ask ask want reply) = entry_line c (Ask ask want reply)
upgraded_line One c line (full.Clock ms) = line
upgraded_line One c line (full.Collect ask reply) = entry_line c (Collect ask reply)
upgraded_line One c line (full.Close ask) = line

-- the lines that say this, in format 2, each with its end
abbrev pub told_text : Configuration → Told → List ℕ
told_text c (told.Begun settings at) = header_text Two settings.now at
told_text c (told.Entry version line entry) = with_end (upgraded_line version c line.now entry)
told_text c told.Ended = with_end last_line

-- the same of an entry's line after a chain, with its end
abbrev pub upgraded_entry : Chain → List ℕ → List ℕ
upgraded_entry ch line = option_map_or (λ entry. with_end (upgraded_line ch.version ch.settings line (without_item entry))) (full_entry ch line) []

abbrev pub where_right : Result Chain CheckKind → (Chain → List ℕ) → List ℕ
where_right (Ok ch) text = text ch
where_right (Err kind) text = []

-- These lines in format 2, each with its end, from a position in a record. Of a chunk's first three lines, the first one changes.
abbrev pub upgraded_from : Position → List (List ℕ) → List ℕ
upgraded_from (Between before) [] = []
upgraded_from (Between before) (rest ∷ []) = []
upgraded_from (Between before) (first ∷ settings ∷ []) = []
upgraded_from (Between before) (first ∷ settings ∷ at ∷ more) =
    where_right (begun before (text_in first) (text_in settings) (text_in at)) (λ ch. header_text Two settings (length ch.events) ++ upgraded_from (Inside ch) more)
upgraded_from (Inside ch) [] = []
upgraded_from (Inside ch) (line ∷ more) =
    if bytes_eq line last_line then with_end last_line ++ upgraded_from (Between (Some ch)) more
    else upgraded_entry ch line ++ where_right (with_line ch line) (λ now. upgraded_from (Inside now) more)

-- a record in format 2
abbrev pub upgraded : List ℕ → List ℕ
upgraded bytes = upgraded_from (Between None) (pieces_at 10 bytes)

-- what was written after lines, and `text`, which is still to be written, are what the lines are in format 2
pub record AreWritten (first out : Option (List ℕ)) (text : List ℕ) (p : Position) (lines rest : List (List ℕ)) : Type 0 where
  pub written : List ℕ
  pub appends : Appends first out written
  pub are : upgraded_from (Between None) lines ≡ written ++ text ++ upgraded_from p rest

-- of a text, what isn't left was written
abbrev pub WritesOff : Option (List ℕ) → Option (List ℕ) → List ℕ → List ℕ → Type 0
WritesOff before after text left = (written : List ℕ) × (text ≡ written ++ left) × Appends before after written

-- no fewer failures than before, and more of them if a write has failed
abbrev pub HasFailedIf : Bool → ℕ → ℕ → Type 0
HasFailedIf failed before after = (before ≤ after) × (failed ≡ true → before < after)

-- ---- that it says the same

-- the same chunk of a run, in format 2: with the same settings line, and as many entries
pub record IsSameChunk (k new : Chunk) : Type 0 where
  pub version : new.version ≡ Two
  pub settings : new.settings ≡ k.settings
  pub entries : length new.entries ≡ length k.entries

-- the same events, in chunks that begin at the same entries
pub record IsSameRun (r new : Run) : Type 0 where
  pub settings : new.settings ≡ r.settings
  pub events : new.events ≡ r.events
  pub chunks : AllZip IsSameChunk (chunks r) (chunks new)

-- A record of some events is one of these events in format 2, too.
abbrev pub UpgradeLaw : Type 0
UpgradeLaw = (text : List ℕ) (n : ℕ) (r : IsRecord text n) → (new : IsRecord (upgraded text) n) × (new.channel ≡ r.channel) × AllZip IsSameRun r.runs new.runs

-- What the next lines of a record say, and where they lead.
use Rattle.std.specs.Prelude.{◌≡◌, ℕ, List, [], ◌∷◌, Bool, true, false, Option, Some, None, Result, Ok, Err, bytes_eq, if◌then◌else◌, length, not, option_map}
use Rattle.ll_check.specs.Found.{ChainValue, IsAt, so_far}
use Rattle.ll_check.specs.declared.told.Told.{Told}
use Rattle.ll_check.specs.declared.told.Told.TheVariants as told
use Rattle.ll_entry_check.specs.Full.{without_item}
use Rattle.ll_entry_check.specs.declared.full.FullEntry.{FullEntry}
use Rattle.ll_entry.specs.Chain.{Between, Chain, Inside, Position, begun, entry_at, text_in, with_line}
use Rattle.ll_entry.specs.Entered.{event_of}
use Rattle.ll_entry.specs.Frame.{last_line}
use Rattle.ll_entry.specs.Told.{entry_after}
use Rattle.ll_entry.specs.declared.entry.EntryFault.{EntryFault}
use Rattle.ll_entry.specs.declared.entry.Recorded.{Recorded}
use Rattle.ll_entry.specs.declared.fault.CheckKind.{CheckKind}
use Rattle.ll_entry.specs.declared.version.Version.{Version}

-- The entry in full of the event that is read so: its reply has the whole outcome, whatever the line's format keeps of that.
abbrev pub in_full : Chain → Result Recorded EntryFault → Option Recorded
in_full ch (Ok entry) = entry_after ch.settings ch.events (event_of entry)
in_full ch (Err fault) = None

-- the entry in full of a line after a chain
abbrev pub full_entry : Chain → List ℕ → Option Recorded
full_entry ch line = in_full ch (entry_at ch.version ch.settings (text_in line))

-- They are the first three lines of a chunk with this settings line, and their result is `joined`.
pub record IsHeader (before : Option Chain) (joined : Result Chain CheckKind) (settings : List ℕ) (lines rest : List (List ℕ)) : Type 0 where
  pub first : List ℕ
  pub place : List ℕ
  pub are : lines ≡ first ∷ settings ∷ place ∷ rest
  pub begun : begun before (text_in first) (text_in settings) (text_in place) ≡ joined

-- They lead to this chain, which has `at` entries.
pub record IsBegunBy (before : Option Chain) (settings : List ℕ) (at : ℕ) (ch : Chain) (lines rest : List (List ℕ)) : Type 0 where
  pub header : IsHeader before (Ok ch) settings lines rest
  pub many : at ≡ length ch.events

-- it is the line of an entry in this format, which is this in full and leads from one chain to the other
pub record IsEntry (ch : Chain) (version : Version) (line : List ℕ) (entry : FullEntry) (now : Chain) (lines rest : List (List ℕ)) : Type 0 where
  pub are : lines ≡ line ∷ rest
  pub other : bytes_eq line last_line ≡ false
  pub joined : with_line ch line ≡ Ok now
  pub format : version ≡ ch.version
  pub told : option_map without_item (full_entry ch line) ≡ Some entry

-- it is the last line of a chunk
pub record IsEnd (ch : Chain) (before : Option Chain) (lines rest : List (List ℕ)) : Type 0 where
  pub line : List ℕ
  pub are : lines ≡ line ∷ rest
  pub last : bytes_eq line last_line ≡ true
  pub same : before ≡ Some ch

-- the first of these lines say this, and lead from one position to the other, before the rest
abbrev pub Tells : Position → Told → Position → List (List ℕ) → List (List ℕ) → Type 0
Tells (Between before) (told.Begun settings at) (Inside ch) lines rest = IsBegunBy before settings.now at ch lines rest
Tells (Inside ch) (told.Entry version line entry) (Inside now) lines rest = IsEntry ch version line.now entry now lines rest
Tells (Inside ch) told.Ended (Between before) lines rest = IsEnd ch before lines rest
Tells p told now lines rest = ⊥

-- what is kept has gone from a position over the lines that say this
pub record Moves (kept : Option ChainValue) (p : Position) (told : Told) (lines rest : List (List ℕ)) : Type 0 where
  pub next : Position
  pub at : IsAt kept next
  pub by : Tells p told next lines rest

-- no text is left between chunks, and what is kept stays as it is
pub record IsOver (old new : Option ChainValue) (p : Position) (text : List ℕ) : Type 0 where
  pub between : p ≡ Between (so_far p)
  pub none : text ≡ []
  pub same : new ≡ old

-- whether the first of these lines is inside a chunk and isn't its last
abbrev pub has_entry : Position → List (List ℕ) → Bool
has_entry (Between before) lines = false
has_entry (Inside ch) [] = false
has_entry (Inside ch) (line ∷ rest) = not (bytes_eq line last_line)

abbrev pub reached_by : Result Chain CheckKind → (Chain → Option Position) → Option Position
reached_by (Ok ch) from = from ch
reached_by (Err kind) from = None

-- where these lines lead from a position, if each of them is right
abbrev pub reached : Position → List (List ℕ) → Option Position
reached p [] = Some p
reached (Between before) (first ∷ []) = None
reached (Between before) (first ∷ settings ∷ []) = None
reached (Between before) (first ∷ settings ∷ at ∷ more) =
    reached_by (begun before (text_in first) (text_in settings) (text_in at)) (λ ch. reached (Inside ch) more)
reached (Inside ch) (line ∷ more) =
    if bytes_eq line last_line then reached (Between (Some ch)) more else reached_by (with_line ch line) (λ now. reached (Inside now) more)

-- Lines of a record that were written one after another, and what a check makes of them.
use Rattle.std.specs.Prelude.{◌≡◌, ℕ, ◌≤◌, List, [], ◌∷◌, ◌++◌, true, false, Option, Some, None, Ok, length, bytes_eq, codes}
use Rattle.std.specs.Str.{is_utf8}
use Rattle.ll_attr.specs.Words.{pieces_at}
use Rattle.ll_entry.specs.Blank.{blank_entry}
use Rattle.ll_entry.specs.Chain.{Between, Chain, Inside, checked_from, entries, is_channel, with_line}
use Rattle.ll_entry.specs.Entered.{event_of, fault_in}
use Rattle.ll_entry.specs.Lines.{IsSpelled, entry_line}
use Rattle.ll_entry.specs.Replies.{most}
use Rattle.ll_entry.specs.Frame.{header_text, last_line}
use Rattle.ll_entry.specs.declared.version.Version.TheVariants.{Two}
use Rattle.ll_entry.specs.declared.entry.Recorded.{Recorded}
use Rattle.ll_format.specs.Words.{is_one_line}
use Rattle.ll_settings.specs.Settings.{Configuration, limit_broken}
use Rattle.ll_entry.specs.SettingsLine.{settings_line}
use Rattle.ll_verdict.specs.Events.{Event}

-- a chain of this channel in the format that is written, after `earlier` entries of earlier chains
abbrev pub chain_of : Configuration → ℕ → List Event → Chain
chain_of c earlier events = record { settings = c; version = Two; earlier = earlier; events = events }

-- Lines of entries, each with its end, lead from the events `before` of a channel to the events `after`: whatever follows them, a check
-- with them after `before` has the same result as without them after `after`.
abbrev pub IsLed : Configuration → List Event → List ℕ → List Event → Type 0
IsLed c before lines after =
    (earlier : ℕ) (rest : List ℕ) → checked_from (Inside (chain_of c earlier before)) (pieces_at 10 (lines ++ rest)) ≡ checked_from (Inside (chain_of c earlier after)) (pieces_at 10 rest)

-- a line with its end
abbrev pub with_end : List ℕ → List ℕ
with_end line = line ++ 10 ∷ []

-- an empty list of lines leads to no more events
abbrev pub NothingLaw : Type 0
NothingLaw = (c : Configuration) (events : List Event) → IsLed c events [] events

-- one more line, if it is right after the events so far
abbrev pub NextLaw : Type 0
NextLaw = (c : Configuration) (before after more : List Event) (lines line : List ℕ) → IsLed c before lines after
    → is_one_line line ≡ true → is_utf8 line ≡ true → bytes_eq line last_line ≡ false → ((earlier : ℕ) → with_line (chain_of c earlier after) line ≡ Ok (chain_of c earlier more))
    → IsLed c before (lines ++ with_end line) more

-- one more entry, if it is right after the events so far: a check knows the number of its bytes alone
abbrev pub EntryNextLaw : Type 0
EntryNextLaw = (c : Configuration) (before after : List Event) (lines : List ℕ) (entry : Recorded) → limit_broken c ≡ None
    → IsSpelled c entry → is_utf8 (entry_line c entry) ≡ true → fault_in Two c after (blank_entry entry) ≡ None → IsLed c before lines after
    → IsLed c before (lines ++ with_end (entry_line c entry)) (after ++ event_of (blank_entry entry) ∷ [])

-- the chunk of these lines of entries, with `at` entries before it
unfoldable pub chunk_text : Configuration → ℕ → List ℕ → List ℕ
chunk_text c at lines = header_text Two (settings_line c) at ++ (lines ++ (last_line ++ codes "\n"))

-- A chunk leads from the chains `before` to the chain `ch`: whatever follows it, a check with it after `before` has the same result as
-- without it after `ch`.
abbrev pub IsChunkOf : Option Chain → List ℕ → Chain → Type 0
IsChunkOf before text ch = (rest : List ℕ) → checked_from (Between before) (pieces_at 10 (text ++ rest)) ≡ checked_from (Between (Some ch)) (pieces_at 10 rest)

-- A chunk that goes on with a chain is right, and the chain has its entries then.
abbrev pub ChunkLaw : Type 0
ChunkLaw = (c : Configuration) (ch : Chain) (after : List Event) (lines : List ℕ) → limit_broken c ≡ None
    → is_utf8 (settings_line c) ≡ true → length ch.events ≤ most → 1 ≤ length ch.events → IsLed c ch.events lines after → ch.settings ≡ c
    → IsChunkOf (Some ch) (chunk_text c (length ch.events) lines) (chain_of c ch.earlier after)

-- A chunk with no entries before it begins another chain of its channel, whatever chains come before it.
abbrev pub FirstChunkLaw : Type 0
FirstChunkLaw = (c : Configuration) (before : Option Chain) (after : List Event) (lines : List ℕ) → limit_broken c ≡ None
    → is_utf8 (settings_line c) ≡ true → is_channel before c ≡ true → IsLed c [] lines after
    → IsChunkOf before (chunk_text c 0 lines) (chain_of c (entries before) after)

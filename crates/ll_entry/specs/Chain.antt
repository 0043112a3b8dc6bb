-- Chains of chunks: the record of one channel from its start on, cut into pieces; after it, that of the channel from another start on, as a
-- program writes it that was started again.
use Rattle.std.specs.Prelude.{ℕ, ◌+◌, ◌==◌, List, [], ◌∷◌, ◌++◌, Bool, true, not, Option, Some, None, Result, Ok, Err, length, nat_le, bytes_eq, if◌then◌else◌}
use Rattle.std.specs.Str.{is_utf8}
use Rattle.ll_attr.specs.Words.{pieces_at}
use Rattle.ll_entry.specs.Entered.{event_of, fault_in}
use Rattle.ll_entry.specs.Entries.{entry_in}
use Rattle.ll_entry.specs.Frame.{is_older, last_line, place, version}
use Rattle.ll_entry.specs.declared.entry.EntryFault.{EntryFault}
use Rattle.ll_entry.specs.declared.entry.EntryFault.TheVariants as entry
use Rattle.ll_entry.specs.declared.entry.Recorded.{Recorded}
use Rattle.ll_settings.specs.Same.{same_settings}
use Rattle.ll_settings.specs.Settings.{Configuration, settings_in}
use Rattle.ll_settings.specs.declared.settings.SettingsFault.{SettingsFault}
use Rattle.ll_entry.specs.declared.version.Version.{Version}
use Rattle.ll_verdict.specs.Events.{Event}
use Rattle.ll_entry.specs.declared.fault.CheckFault.{CheckFault}
use Rattle.ll_entry.specs.declared.fault.CheckKind.{CheckKind}
use Rattle.ll_entry.specs.declared.fault.CheckKind.TheVariants.{BadChunk, Gap, OtherChannel, Refused, Memory}

-- what the chunks so far say, of which there are some
pub record Chain : Type 0 where
  -- the settings of the chain that the last chunk is of
  pub settings : Configuration
  -- the format of the last chunk
  pub version : Version
  -- the number of entries of the chains before this one
  pub earlier : ℕ
  -- one for each entry of this chain
  pub events : List Event

-- the number of entries of all chains so far
abbrev pub entries : Option Chain → ℕ
entries None = 0
entries (Some ch) = ch.earlier + length ch.events

-- ---- the first three lines of a chunk

-- a line that is text
abbrev pub text_in : List ℕ → Option (List ℕ)
text_in line = if is_utf8 line then Some line else None

-- whether these settings are of the channel of the chains so far
abbrev pub is_channel : Option Chain → Configuration → Bool
is_channel None c = true
is_channel (Some ch) c = bytes_eq ch.settings.channel c.channel

-- another chain of the channel, in any format and with any settings
abbrev pub another : Option Chain → Version → Configuration → Result Chain CheckKind
another before v c =
    if is_channel before c then Ok (record { settings = c; version = v; earlier = entries before; events = [] }) else Err OtherChannel

-- the same chain, of which `at` entries come before the chunk
abbrev pub continued : Option Chain → Version → Configuration → ℕ → Result Chain CheckKind
continued None v c at = Err Gap
continued (Some ch) v c at =
    if is_older v ch.version then Err BadChunk
    else if not (at == length ch.events) then Err Gap
    else if same_settings ch.settings c then Ok (record ch { version = v })
    else Err OtherChannel

-- the chain that a chunk begins, which has none of its entries before it, or goes on with
abbrev pub joined_at : Option Chain → Version → Configuration → ℕ → Result Chain CheckKind
joined_at before v c at = if at == 0 then another before v c else continued before v c at

abbrev pub begun_by : Option Chain → Option Version → Result Configuration SettingsFault → Option ℕ → Result Chain CheckKind
begun_by before (Some v) (Ok c) (Some at) = joined_at before v c at
begun_by before v settings at = Err BadChunk

-- the chain of a chunk that begins with these lines: `#LLHLS-CHUNK 1` or `#LLHLS-CHUNK 2`, a settings line, and `at N` with the number of
-- its chain's entries before it
abbrev pub begun : Option Chain → Option (List ℕ) → Option (List ℕ) → Option (List ℕ) → Result Chain CheckKind
begun before (Some first) (Some settings) (Some at) = begun_by before (version.read first) (settings_in settings) (place.read at)
begun before first settings at = Err BadChunk

-- ---- each further line

abbrev pub kind_of : EntryFault → CheckKind
kind_of entry.BadLine = BadChunk
kind_of entry.Refused = Refused
kind_of entry.Memory = Memory

abbrev pub joined_by : Option CheckKind → Chain → Event → Result Chain CheckKind
joined_by None ch event = Ok (record ch { events = ch.events ++ event ∷ [] })
joined_by (Some kind) ch event = Err kind

abbrev pub joined : Chain → Result Recorded EntryFault → Result Chain CheckKind
joined ch (Err fault) = Err (kind_of fault)
joined ch (Ok entry) = joined_by (fault_in ch.version ch.settings ch.events entry) ch (event_of entry)

abbrev pub entry_at : Version → Configuration → Option (List ℕ) → Result Recorded EntryFault
entry_at v c None = Err entry.BadLine
entry_at v c (Some line) = entry_in v c line

-- the chain with the event of a line's entry
abbrev pub with_line : Chain → List ℕ → Result Chain CheckKind
with_line ch line = joined ch (entry_at ch.version ch.settings (text_in line))

-- ---- whole chunks

-- at which entry chains are wrong, and how
abbrev pub wrong : Option Chain → CheckKind → Result (Option Chain) CheckFault
wrong before kind = Err (record { entry = entries before + 1; kind = kind })

abbrev pub go_on : Option Chain → Result Chain CheckKind → (Chain → Result (Option Chain) CheckFault) → Result (Option Chain) CheckFault
go_on before (Err kind) from = wrong before kind
go_on before (Ok ch) from = from ch

-- each line has an end: what follows the last end is no line
abbrev pub ended_line : List (List ℕ) → Option Chain → Result (Option Chain) CheckFault → Result (Option Chain) CheckFault
ended_line [] before more = wrong before BadChunk
ended_line (next ∷ rest) before more = more

abbrev pub nothing_after : Option Chain → List ℕ → Result (Option Chain) CheckFault
nothing_after before rest = if bytes_eq rest [] then Ok before else wrong before BadChunk

pub data Position : Type 0 where
  -- before a chunk's first line
  Between : Option Chain → Position
  -- after a chunk's first three lines
  Inside : Chain → Position

-- the chains so far with these lines, the last of which has no end
abbrev pub checked_from : Position → List (List ℕ) → Result (Option Chain) CheckFault
checked_from (Between before) [] = wrong before BadChunk
checked_from (Between before) (rest ∷ []) = nothing_after before rest
checked_from (Between before) (first ∷ settings ∷ []) = wrong before BadChunk
checked_from (Between before) (first ∷ settings ∷ at ∷ more) =
    ended_line more before (go_on before (begun before (text_in first) (text_in settings) (text_in at)) (λ ch. checked_from (Inside ch) more))
checked_from (Inside ch) [] = wrong (Some ch) BadChunk
checked_from (Inside ch) (line ∷ more) =
    ended_line more (Some ch) (
    if bytes_eq line last_line then checked_from (Between (Some ch)) more
    else go_on (Some ch) (with_line ch line) (λ now. checked_from (Inside now) more)
    )

-- whether nothing is found wrong before this entry
abbrev pub not_before : ℕ → Result (Option Chain) CheckFault → Bool
not_before entry (Ok chains) = true
not_before entry (Err fault) = nat_le entry fault.entry

-- the number of entries: there is one chunk or more
abbrev pub counted : Result (Option Chain) CheckFault → Result ℕ CheckFault
counted (Err fault) = Err fault
counted (Ok None) = Err (record { entry = 1; kind = BadChunk })
counted (Ok (Some ch)) = Ok (entries (Some ch))

-- The number of entries of these bytes, if they are faithful chains: one or more chunks of one channel, each of which begins a chain or
-- goes on with one, in which every entry has an event that can happen after those before it in its chain, with the reply that it should
-- have. Else the first entry at which they are wrong, and how.
abbrev pub checked : List ℕ → Result ℕ CheckFault
checked bytes = counted (checked_from (Between None) (pieces_at 10 bytes))

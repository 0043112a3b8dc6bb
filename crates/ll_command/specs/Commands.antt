-- The command that the program's words spell.
use Rattle.std.specs.Prelude.{ℕ, ◌+◌, ◌-◌, ◌/◌, ◌^◌, ◌&&◌, ◌||◌, ◌==◌, Bool, true, false, max, min, nat_le, List, [], ◌∷◌, Option, Some, None, Result, Ok, Err, bytes_eq, codes, length, not, option_and_then, option_map, if◌then◌else◌}
use Rattle.std.specs.Option.{unwrap_or}
use Rattle.ll_attr.specs.Words.{after}
use Rattle.ll_command.specs.declared.command.Command.{Command}
use Rattle.ll_command.specs.declared.command.Command.TheVariants as command
use Rattle.ll_command.specs.declared.fault.Fault.{Fault}
use Rattle.ll_entry.specs.Replies.{count}
use Rattle.ll_settings.specs.Names.{is_name}
use Rattle.ll_command.specs.declared.plan.Plan.{Plan}
use Rattle.ll_command.specs.declared.topic.Topic.{Topic}
use Rattle.ll_command.specs.declared.topic.Topic.TheVariants as topic
use Rattle.ll_command.specs.declared.fault.Fault.TheVariants.{Usage}

pub data Call : Type 0 where
  -- run the script on standard input
  Replay : Call
  -- apply the delta update in the second file to the playlist in the first
  Apply : List ℕ → List ℕ → Call
  -- check the record in a file
  Check : List ℕ → Call
  -- write the record in a file in format 2
  Upgrade : List ℕ → Call
  -- summarize the record in a file
  Summarize : List ℕ → Call
  -- explain one entry of the record in a file, by its number
  Explain : List ℕ → ℕ → Call
  -- serve the channels of a settings file
  Serve : List ℕ → Call
  -- write the Multivariant Playlist of the record in a file, with these renditions and files
  Multivariant : List ℕ → List (List ℕ) → Call
  -- write the version
  Version : Call
  -- write how the program, or one of its commands, is used
  Help : Topic → Call
  -- publish what an encoder writes to standard input: at addresses, in a channel and a rendition, by a plan, with the secret in a file
  Push : List ℕ → List ℕ → List ℕ → Plan → Option (List ℕ) → Call

-- the command called `name`, as what help is asked for
abbrev pub topic_named : List ℕ → Option Topic
topic_named name =
    if bytes_eq name (codes "serve") then Some topic.Serve
    else if bytes_eq name (codes "push") then Some topic.Push
    else if bytes_eq name (codes "replay") then Some topic.Replay
    else if bytes_eq name (codes "check") then Some topic.Check
    else if bytes_eq name (codes "upgrade") then Some topic.Upgrade
    else if bytes_eq name (codes "explain") then Some topic.Explain
    else if bytes_eq name (codes "multivariant") then Some topic.Multivariant
    else if bytes_eq name (codes "apply") then Some topic.Apply
    else if bytes_eq name (codes "version") then Some topic.Version
    else None

abbrev pub help_by : Option Topic → Result Call Fault
help_by (Some about) = Ok (Help about)
help_by None = Err Usage

-- the help on the command `name`
abbrev pub help : List ℕ → Result Call Fault
help name = help_by (topic_named name)

-- whether the only word asks for help on the program
abbrev pub asks_for_help : List ℕ → Bool
asks_for_help word = bytes_eq word (codes "help") || (bytes_eq word (codes "--help") || bytes_eq word (codes "-h"))

-- the command `name` without a file
abbrev pub alone : List ℕ → Result Call Fault
alone name =
    if bytes_eq name (codes "replay") then Ok Replay
    else if bytes_eq name (codes "version") || bytes_eq name (codes "--version") then Ok Version
    else if asks_for_help name then Ok (Help topic.Program)
    else Err Usage

-- the command `name` with one file
abbrev pub with_only_file : List ℕ → List ℕ → Result Call Fault
with_only_file name file =
    if bytes_eq name (codes "check") then Ok (Check file)
    else if bytes_eq name (codes "upgrade") then Ok (Upgrade file)
    else if bytes_eq name (codes "explain") then Ok (Summarize file)
    else if bytes_eq name (codes "serve") then Ok (Serve file)
    else Err Usage

-- help, as `COMMAND --help` and as `help COMMAND`, or the command `name` with one file
abbrev pub with_file : List ℕ → List ℕ → Result Call Fault
with_file name file =
    if bytes_eq file (codes "--help") then help name
    else if bytes_eq name (codes "help") then help file
    else with_only_file name file

-- entries are counted from 1
abbrev pub explain_by : List ℕ → Option ℕ → Result Call Fault
explain_by file (Some entry) = if entry == 0 then Err Usage else Ok (Explain file entry)
explain_by file None = Err Usage

-- the command `name` with two files, or with a file and the number of an entry
abbrev pub with_two : List ℕ → List ℕ → List ℕ → Result Call Fault
with_two name file other =
    if bytes_eq name (codes "apply") then Ok (Apply file other)
    else if bytes_eq name (codes "explain") then explain_by file (count.read other)
    else Err Usage

-- the number in a word after `key`
abbrev pub setting : List ℕ → List ℕ → Option ℕ
setting key word = option_and_then count.read (after key word)

-- the longest duration of a segment by default: half as long again as it is to be, and no less than a part
abbrev pub usual_most : ℕ → ℕ → ℕ
usual_most part segment = max part (min (segment + segment / 2) (2 ^ 64 - 1))

-- the number that the first word has, if it has one, and the words that are left
abbrev pub numbered_by : List ℕ → List (List ℕ) → Option ℕ → Option ℕ × List (List ℕ)
numbered_by word words (Some number) = (Some number, words)
numbered_by word words None = (None, word ∷ words)

abbrev pub numbered : List ℕ → List (List ℕ) → Option ℕ × List (List ℕ)
numbered key [] = (None, [])
numbered key (word ∷ words) = numbered_by word words (setting key word)

-- whether the first word is `flag`, and the words that are left
abbrev pub flagged : List ℕ → List (List ℕ) → Bool × List (List ℕ)
flagged flag [] = (false, [])
flagged flag (word ∷ words) = if bytes_eq word flag then (true, words) else (false, word ∷ words)

-- the path after `secret=` that the first word has, if it has one, and the words that are left
abbrev pub secret_by : List ℕ → List (List ℕ) → Option (List ℕ) → Option (List ℕ) × List (List ℕ)
secret_by word words (Some path) = if length path == 0 then (None, word ∷ words) else (Some path, words)
secret_by word words None = (None, word ∷ words)

abbrev pub secret : List (List ℕ) → Option (List ℕ) × List (List ℕ)
secret [] = (None, [])
secret (word ∷ words) = secret_by word words (after (codes "secret=") word)

-- the path, if it did not stand before
abbrev pub secret_after : Option (List ℕ) → List (List ℕ) → Option (List ℕ) × List (List ℕ)
secret_after (Some path) words = (Some path, words)
secret_after None words = secret words

-- `most=` with a number, `ahead=no`, `retry=` and `keep=` with a number and `end`, in this order, and `secret=` with a path before or after
-- `end`; each is optional
pub record Options : Type 0 where
  pub most : Option ℕ
  pub hasty : Bool
  pub retry : Option ℕ
  pub keep : Option ℕ
  pub ends : Bool
  pub secret : Option (List ℕ)

-- the options, if no words are left after them
abbrev pub options_by : Option ℕ → Bool → Option ℕ → Option ℕ → Bool → Option (List ℕ) × List (List ℕ) → Option Options
options_by most hasty retry keep ends last =
    if length last.1 == 0 then Some (record { most = most; hasty = hasty; retry = retry; keep = keep; ends = ends; secret = last.0 }) else None

abbrev pub options : List (List ℕ) → Option Options
options words =
    let most = numbered (codes "most=") words in
    let hasty = flagged (codes "ahead=no") most.1 in
    let retry = numbered (codes "retry=") hasty.1 in
    let keep = numbered (codes "keep=") retry.1 in
    let early = secret keep.1 in
    let ends = flagged (codes "end") early.1 in
    options_by most.0 hasty.0 retry.0 keep.0 ends.0 (secret_after early.0 ends.1)

-- the plan and the path of the secret, if a part has a duration and the longest segment is no shorter; a lost connection is tried again for 60 seconds by default, and 64 MiB wait for
-- an origin
abbrev pub plan_by : ℕ → ℕ → ℕ → Options → Option (Plan × Option (List ℕ))
plan_by part segment most o =
    if nat_le 1 part && nat_le part most then
    Some (
      record {
        lengths = record { part = part; segment = segment; most = most; ahead = not o.hasty };
        retry = unwrap_or o.retry 60;
        keep = unwrap_or o.keep 67108864;
        ends = o.ends;
      },
      o.secret,
    )
    else None

abbrev pub plan_of : Option ℕ → Option ℕ → Option Options → Option (Plan × Option (List ℕ))
plan_of (Some part) (Some segment) (Some o) = plan_by part segment (unwrap_or o.most (usual_most part segment)) o
plan_of (Some part) (Some segment) None = None
plan_of (Some part) None options = None
plan_of None segment options = None

-- how an encoder's output is published: `part=` and `segment=` with microseconds, and then options
abbrev pub plan : List ℕ → List ℕ → List (List ℕ) → Option (Plan × Option (List ℕ))
plan part segment words = plan_of (setting (codes "part=") part) (setting (codes "segment=") segment) (options words)

abbrev pub push_by : List ℕ → List ℕ → List ℕ → Option (Plan × Option (List ℕ)) → Result Call Fault
push_by address channel rendition (Some planned) = Ok (Push address channel rendition planned.0 planned.1)
push_by address channel rendition None = Err Usage

-- the command that publishes at an address, if the channel and the rendition are names
abbrev pub push : List ℕ → List ℕ → List ℕ → Option (Plan × Option (List ℕ)) → Result Call Fault
push address channel rendition plan =
    if is_name channel && is_name rendition then push_by address channel rendition plan else Err Usage

-- the command `name` with an address, a channel, a rendition and a plan
abbrev pub with_plan : List ℕ → List ℕ → List ℕ → List ℕ → Option (Plan × Option (List ℕ)) → Result Call Fault
with_plan name address channel rendition plan = if bytes_eq name (codes "push") then push address channel rendition plan else Err Usage

-- the command of all words but that of Multivariant Playlists, the first of which names the program; other words are wrong usage
abbrev pub other_command : List (List ℕ) → Result Call Fault
other_command (program ∷ name ∷ []) = alone name
other_command (program ∷ name ∷ file ∷ []) = with_file name file
other_command (program ∷ name ∷ file ∷ other ∷ []) = with_two name file other
other_command (program ∷ name ∷ address ∷ channel ∷ rendition ∷ part ∷ segment ∷ words) = with_plan name address channel rendition (plan part segment words)
other_command other = Err Usage

-- help, or a record, and one or more renditions
abbrev pub multivariant : List (List ℕ) → Result Call Fault
multivariant (word ∷ []) = if bytes_eq word (codes "--help") then Ok (Help topic.Multivariant) else Err Usage
multivariant (chunks ∷ source ∷ sources) = Ok (Multivariant chunks (source ∷ sources))
multivariant other = Err Usage

-- what follows `multivariant`, if this is the word after the program's name
abbrev pub after_multivariant : List (List ℕ) → Option (List (List ℕ))
after_multivariant [] = None
after_multivariant (program ∷ []) = None
after_multivariant (program ∷ name ∷ words) = if bytes_eq name (codes "multivariant") then Some words else None

abbrev pub command_by : Option (List (List ℕ)) → List (List ℕ) → Result Call Fault
command_by (Some more) words = multivariant more
command_by None words = other_command words

-- the command of all words, the first of which names the program
abbrev pub command_of : List (List ℕ) → Result Call Fault
command_of words = command_by (after_multivariant words) words

abbrev pub call_of : Command → Call
call_of command.Replay = Replay
call_of (command.Apply base delta) = Apply base.now delta.now
call_of (command.Check chunks) = Check chunks.now
call_of (command.Upgrade chunks) = Upgrade chunks.now
call_of (command.Summarize chunks) = Summarize chunks.now
call_of (command.Explain chunks entry) = Explain chunks.now entry
call_of (command.Serve settings) = Serve settings.now
call_of (command.Push address channel rendition plan secret) = Push address.now channel.now rendition.now plan (option_map (λ s. s.now) secret)
call_of (command.Multivariant chunks sources) = Multivariant chunks.now sources.now
call_of command.Version = Version
call_of (command.Help about) = Help about

-- The entry of each event of a channel, over the list of all its events: what a record says of it.
use Rattle.std.specs.Prelude.{ℕ, ◌+◌, ◌^◌, ◌==◌, ◌&&◌, List, [], Bool, Option, Some, None, find, is_none, is_some, length, nat_le, option_and_then, option_map, if◌then◌else◌}
use Rattle.std.specs.List.{list_any}
use Rattle.std.specs.Option.{option_map_or}
use Rattle.ll_entry.specs.Lines.{entry_line}
use Rattle.ll_entry.specs.declared.entry.Recorded.{Recorded}
use Rattle.ll_entry.specs.declared.entry.Recorded.TheVariants as recorded
use Rattle.ll_settings.specs.Settings.{Configuration}
use Rattle.ll_verdict.specs.Full.{is_full, refusal_after}
use Rattle.ll_verdict.specs.Events.{Event, Publish, Ask, Collect, Close, Clock, Step, asks}
use Rattle.ll_verdict.specs.Outcome.{outcome_of}
use Rattle.ll_verdict.specs.State.{open_requests}
use Rattle.ll_verdict.specs.Verdict.{Pending, at_once, held, reply, reply_of}
use Rattle.ll_verdict.specs.declared.reply.Outcome.{Outcome}
use Rattle.ll_verdict.specs.declared.reply.Settled.{Settled}
use Rattle.ll_entry.specs.Leads.{with_end}
use Rattle.ll_entry.specs.Replies.{told_in}
use Rattle.ll_entry.specs.declared.version.Version.{Version}

-- the open request with this number, if it has its reply
abbrev pub replied : Configuration → List Event → ℕ → Option Pending
replied c before ask = find (λ r. r.ticket == ask && is_some (reply c before r)) (open_requests c before)

-- the outcome of that reply
abbrev pub outcome_of_reply : Configuration → List Event → ℕ → Option Outcome
outcome_of_reply c before ask = option_map (λ (s : Settled). outcome_of (reply_of s)) (option_and_then (reply c before) (replied c before ask))

-- The entry of an event after these events of its channel; none if it can't happen. An item has an entry if no rule refuses it; a request
-- has the next number, and its outcome at once, or that it waits; a reading is at most 2^60 milliseconds; a reply that is handed out is
-- that of an open request, and has its outcome; a request that is closed is open. A channel that has taken as many events as it can has no
-- more items, requests and readings.
abbrev pub entry_after : Configuration → List Event → Event → Option Recorded
entry_after c before (Publish item) = if is_none (refusal_after c before item) then Some (recorded.Publish item) else None
entry_after c before (Ask want) =
    if is_full (length before) then None
    else Some (recorded.Ask (asks before + 1) want (option_map outcome_of (at_once c (held c before) before want)))
entry_after c before (Clock ms) = if is_full (length before) then None else if nat_le ms (2 ^ 60) then Some (recorded.Clock ms) else None
entry_after c before (Collect ask) = option_map (recorded.Collect ask) (outcome_of_reply c before ask)
entry_after c before (Close ask) = if list_any (λ r. r.ticket == ask) (open_requests c before) then Some (recorded.Close ask) else None

-- the entry of an event after those before it
abbrev pub entry_of : Configuration → Step → Option Recorded
entry_of c s = entry_after c s.before s.event

abbrev pub can_happen : Configuration → Step → Bool
can_happen c s = is_some (entry_of c s)

-- the line of an event, exactly as its entry is spelled, with its end
abbrev pub line_of : Configuration → Step → List ℕ
line_of c s = option_map_or (λ entry. with_end (entry_line c entry)) (entry_of c s) []

-- what an entry of a record in this format keeps of all that
abbrev pub as_told : Version → Recorded → Recorded
as_told version (recorded.Publish item) = recorded.Publish item
as_told version (recorded.Ask ask want reply) = recorded.Ask ask want (option_map (told_in version) reply)
as_told version (recorded.Clock ms) = recorded.Clock ms
as_told version (recorded.Collect ask reply) = recorded.Collect ask (told_in version reply)
as_told version (recorded.Close ask) = recorded.Close ask

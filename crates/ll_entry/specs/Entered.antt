-- Whether an entry of a record in this format is right after some events of its channel.
use Rattle.std.specs.Prelude.{ℕ, ◌+◌, ◌^◌, ◌==◌, ◌&&◌, List, Bool, true, false, not, Option, Some, None, length, nat_le, option_map, if◌then◌else◌}
use Rattle.std.specs.List.{list_any}
use Rattle.ll_verdict.specs.Waiting.{has_ticket, reply_at}
use Rattle.ll_entry.specs.declared.entry.Recorded.{Recorded}
use Rattle.ll_entry.specs.declared.entry.Recorded.TheVariants as recorded
use Rattle.ll_settings.specs.Settings.{Configuration}
use Rattle.ll_item.specs.declared.skip_kind.SkipKind.{SkipKind}
use Rattle.ll_item.specs.declared.skip_kind.SkipKind.TheVariants.{Yes, V2}
use Rattle.ll_entry.specs.Replies.{told_in}
use Rattle.ll_entry.specs.declared.version.Version.{Version}
use Rattle.ll_verdict.specs.Full.{is_full, refusal_after}
use Rattle.ll_verdict.specs.Events.{Event, Publish, Ask, Clock, Collect, Close, asks}
use Rattle.ll_verdict.specs.Outcome.{outcome_of}
use Rattle.ll_verdict.specs.State.{state_of}
use Rattle.ll_verdict.specs.Verdict.{at_once, held, reply_of}
use Rattle.ll_rendition.specs.declared.fault.PublishFault.{PublishFault}
use Rattle.ll_verdict.specs.declared.reply.Outcome.{Outcome}
use Rattle.ll_verdict.specs.declared.reply.Outcome.TheVariants.{Text, Media, NotFound, TooFar, Busy, Timeout}
use Rattle.ll_verdict.specs.declared.reply.Settled.{Settled}
use Rattle.ll_entry.specs.declared.fault.CheckKind.{CheckKind}
use Rattle.ll_entry.specs.declared.fault.CheckKind.TheVariants.{Refused, WrongReply}

-- the event of an entry
abbrev pub event_of : Recorded → Event
event_of (recorded.Publish item) = Publish item
event_of (recorded.Ask ask want reply) = Ask want
event_of (recorded.Clock ms) = Clock ms
event_of (recorded.Collect ask reply) = Collect ask
event_of (recorded.Close ask) = Close ask

abbrev pub same_update : Option SkipKind → Option SkipKind → Bool
same_update None None = true
same_update (Some Yes) (Some Yes) = true
same_update (Some V2) (Some V2) = true
same_update a b = false

abbrev pub same_outcome : Outcome → Outcome → Bool
same_outcome (Text a update) (Text b other) = a == b && same_update update other
same_outcome (Media a size) (Media b other) = a == b && size == other
same_outcome NotFound NotFound = true
same_outcome TooFar TooFar = true
same_outcome Busy Busy = true
same_outcome Timeout Timeout = true
same_outcome a b = false

-- whether two replies have the same outcome, or both requests wait
abbrev pub same_answer : Option Outcome → Option Outcome → Bool
same_answer None None = true
same_answer (Some a) (Some b) = same_outcome a b
same_answer a b = false

-- whether the request with the number `ask` is open after these events
abbrev pub is_open_after : Configuration → List Event → ℕ → Bool
is_open_after c events ask = list_any (has_ticket ask) (state_of c events).slots

-- the outcome of a request that had to wait, if its reply is there
abbrev pub settled_after : Configuration → List Event → ℕ → Option Outcome
settled_after c events ask = option_map (λ (s : Settled). outcome_of (reply_of s)) (reply_at ask (state_of c events).slots)

abbrev pub unless_refused : Option PublishFault → Option CheckKind
unless_refused None = None
unless_refused (Some fault) = Some Refused

-- an event that can't happen is refused; else its reply counts
abbrev pub where_it_can : Bool → Bool → Option CheckKind
where_it_can can right = if can then (if right then None else Some WrongReply) else Some Refused

-- What is wrong with an entry after these events of its channel, or none. An item is right if no rule refuses it; a request if its number
-- is the next, and it gets at once what it should or waits; a reading up to 2^60 milliseconds; a reply that is handed out if its request is
-- open and has exactly this reply; a request that is closed if it is open. Of a reply counts what the format keeps of it. A channel that
-- has taken as many events as it can refuses items, requests and readings.
abbrev pub fault_in : Version → Configuration → List Event → Recorded → Option CheckKind
fault_in version c events (recorded.Publish item) = unless_refused (refusal_after c events item)
fault_in version c events (recorded.Ask ask want reply) =
    where_it_can (ask == asks events + 1 && not (is_full (length events))) (same_answer reply (option_map (λ r. told_in version (outcome_of r)) (at_once c (held c events) events want)))
fault_in version c events (recorded.Clock ms) = where_it_can (nat_le ms (2 ^ 60) && not (is_full (length events))) true
fault_in version c events (recorded.Collect ask reply) = where_it_can (is_open_after c events ask) (same_answer (Some reply) (option_map (told_in version) (settled_after c events ask)))
fault_in version c events (recorded.Close ask) = where_it_can (is_open_after c events ask) true

-- How many events a channel takes, and the first rule that refuses an item.
use Rattle.std.specs.Prelude.{ℕ, ◌^◌, List, Bool, Option, Some, None, length, nat_le, if◌then◌else◌}
use Rattle.ll_settings.specs.Settings.{Configuration}
use Rattle.ll_item.specs.declared.item.Item.{Item}
use Rattle.ll_verdict.specs.Accepted.{refusal}
use Rattle.ll_rendition.specs.Refusal.{first_refusal}
use Rattle.ll_verdict.specs.Events.{Event, items}
use Rattle.ll_rendition.specs.declared.fault.PublishFault.{PublishFault}
use Rattle.ll_rendition.specs.declared.fault.PublishFault.TheVariants.{RecordFull}

-- the number of events that a channel takes; after them requests are still collected and closed, and nothing else happens
abbrev pub event_end : ℕ
event_end = 2 ^ 60

-- whether a channel takes no more events
abbrev pub is_full : ℕ → Bool
is_full events = nat_le event_end events

abbrev pub full_by : Bool → Option PublishFault
full_by full = if full then Some RecordFull else None

-- the first rule that refuses an item after `events` of its channel, or none; that the channel is full comes last (rule 23)
abbrev pub refusal_after : Configuration → List Event → Item → Option PublishFault
refusal_after c events item = first_refusal (refusal c (items c events) item) (full_by (is_full (length events)))

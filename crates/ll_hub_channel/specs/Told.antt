-- The results of a channel's calls, by the events of that channel before the call.
use Rattle.std.specs.Prelude.{◌≡◌, ◌≢◌, ◌≤◌, ◌<◌, ◌^◌, ℕ, ◌+◌, ◌*◌, Bool, List, Some, None, length, slice_get, true, false}
use Rattle.ll_directive.specs.Targets.{WantValue}
use Rattle.ll_settings.specs.Settings.{Configuration}
use Rattle.ll_item.specs.declared.item.Item.{Item}
use Rattle.ll_record.specs.Chunk.{ChunkValue, IsChunk, IsFaithful}
use Rattle.ll_record.specs.Recording.{IsRecorded, Recording}
use Rattle.ll_verdict.specs.declared.fault.ClockFault.{ClockFault}
use Rattle.ll_verdict.specs.declared.fault.ClockFault.TheVariants as reading
use Rattle.ll_verdict.specs.declared.fault.AskFault.{AskFault}
use Rattle.ll_verdict.specs.declared.fault.AskFault.TheVariants as unasked
use Rattle.ll_verdict.specs.Full.{full_by, refusal_after}
use Rattle.ll_verdict.specs.Events.{Event, asks, items, time}
use Rattle.ll_verdict.specs.Standing.{standing}
use Rattle.ll_verdict.specs.State.{open_requests, slot_of, state_of}
use Rattle.ll_verdict.specs.Verdict as verdict
use Rattle.ll_verdict.specs.Verdict.{Pending, at_once, held, reply_of, wanted_of}
use Rattle.ll_verdict.specs.Waiting.{found}
use Rattle.ll_verdict.specs.declared.entry.Entry.{Entry}
use Rattle.ll_rendition.specs.Refusal.{first_refusal}
use Rattle.ll_rendition.specs.declared.fault.PublishFault.{PublishFault}
use Rattle.ll_rendition.specs.declared.fault.PublishFault.TheVariants as refused
use Rattle.ll_verdict.specs.declared.reply.Reply.{Reply}
use Rattle.ll_verdict.specs.declared.reply.Settled.{Settled}
use Rattle.ll_verdict.specs.declared.standing.Standing.{Standing}
use Rattle.ll_hub_channel.specs.Deeds.{events_of, handed, is_filled_after, is_record_full_after}
use Rattle.ll_hub_channel.specs.declared.total.Total.{Total}
use Rattle.ll_history.specs.declared.deed.Deed.{Deed}

-- ---- items

-- the item was accepted, and the channel has `count` items with it; the caller had seen fewer
pub record IsAccepted (c : Configuration) (events : List Event) (item : Item) (seen count : ℕ) : Type 0 where
  pub allowed : refusal_after c events item ≡ None
  pub counted : count ≡ length (items c events) + 1
  pub later : seen < count

-- the item was refused by the first rule that refuses it, of which a full record is the last; Memory only if none does. The caller had seen no more
-- items than there are.
pub record IsRefused (c : Configuration) (events : List Event) (full : Bool) (item : Item) (seen : ℕ) (fault : PublishFault) : Type 0 where
  pub rule : fault ≢ refused.Memory → first_refusal (refusal_after c events item) (full_by full) ≡ Some fault
  pub memory : fault ≡ refused.Memory → first_refusal (refusal_after c events item) (full_by full) ≡ None
  pub later : seen ≤ length (items c events)

-- a rendition stands here; the caller had seen no more items than there are
pub record IsStanding (c : Configuration) (events : List Event) (rendition seen : ℕ) (s : Standing) : Type 0 where
  pub there : rendition < length c.renditions
  pub stands : s ≡ standing c (items c events) rendition
  pub later : seen ≤ s.count

-- ---- requests

-- a request is answered at once, as the request with the number `ticket`; the caller had seen no more items than there are (rule 30)
pub record IsAnswered (c : Configuration) (events : List Event) (want : WantValue) (seen ticket : ℕ) (reply : Reply) : Type 0 where
  pub answer : at_once c (held c events) events want ≡ Some reply
  pub number : ticket ≡ asks events + 1
  pub later : seen ≤ length (items c events)

-- a request has to wait, as this one
pub record HasToWait (c : Configuration) (events : List Event) (want : WantValue) (entry : Entry) : Type 0 where
  pub answer : at_once c (held c events) events want ≡ None
  pub wanted : wanted_of c want ≡ Some entry.wanted
  pub number : entry.ticket ≡ asks events + 1
  pub seen : entry.seen ≡ length (items c events)
  pub deadline : entry.deadline ≡ time events + 3000 * c.target

-- the same; the caller had seen no more items than there are
pub record IsHeld (c : Configuration) (events : List Event) (want : WantValue) (known : ℕ) (entry : Entry) : Type 0 where
  pub waits : HasToWait c events want entry
  pub later : known ≤ entry.seen

-- why a request isn't made: the first of these
abbrev pub IsAskRefused : Bool → AskFault → Type 0
IsAskRefused filled unasked.RecordFull = filled ≡ true
IsAskRefused filled unasked.Memory = filled ≡ false

-- why a reading is refused: the first of these
abbrev pub IsReadingRefused : Bool → ℕ → ClockFault → Type 0
IsReadingRefused filled ms reading.ClockRange = 2 ^ 60 < ms
IsReadingRefused filled ms reading.RecordFull = (ms ≤ 2 ^ 60) × (filled ≡ true)
IsReadingRefused filled ms reading.Memory = (ms ≤ 2 ^ 60) × (filled ≡ false)

-- this request had to wait, and this is what it gets
pub record IsDecided (c : Configuration) (events : List Event) (waiting : Entry) (reply : Reply) : Type 0 where
  pub request : Pending
  pub place : ℕ
  pub waited : slice_get (held c events) place ≡ Some request
  pub entry : (slot_of c events request).entry ≡ waiting
  pub answer : Settled
  pub decided : verdict.reply c events request ≡ Some answer
  pub told : reply ≡ reply_of answer

-- this request is open
abbrev pub IsOpen : Configuration → List Event → Entry → Type 0
IsOpen c events entry = found entry.ticket (state_of c events).slots ≡ Some entry

-- ---- the record

-- The record of a channel to which this was done is handed out: it has exactly the events since it was last handed out, and a check that knows the
-- events before these finds it right, and goes on with all.
pub record IsHandedOut (c : Configuration) (deeds : List Deed) (chunk : ChunkValue) : Type 0 where
  pub recording : Recording
  pub settings : recording.room.settings ≡ c
  pub recorded : IsRecorded recording (events_of c deeds)
  pub at : recording.at ≡ handed deeds
  pub text : IsChunk recording chunk
  pub faithful : IsFaithful recording (events_of c deeds) chunk

-- ---- totals

-- the total of these events of a channel
pub record IsTotalOf (c : Configuration) (events : List Event) (t : Total) : Type 0 where
  pub publishes : t.publishes ≡ length (items c events)
  pub asked : t.asks ≡ asks events
  pub held : t.held ≡ length (open_requests c events)

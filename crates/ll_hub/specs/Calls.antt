-- The results of a hub's calls. A hub is the settings of its channels, a pass what its caller has seen and counted. Each call leads the caller's
-- beginning of the hub's one history to a longer one.
use Rattle.std.specs.Prelude.{◌≡◌, ◌⊎◌, ◌<◌, ◌≤◌, ◌+◌, ℕ, ⊤, List, Option, Some, None, MatchBool, length, slice_get}
use mathlib.Core.List.{IsPrefix}
use Rattle.ll_directive.specs.Targets.{WantValue}
use Rattle.ll_history.specs.History.{deeds_at}
use Rattle.ll_history.specs.declared.deed.Logged.{Logged}
use Rattle.ll_settings.specs.Settings.{Configuration}
use Rattle.ll_item.specs.declared.item.Item.{Item}
use Rattle.ll_ledger.specs.Sections.{HasAccepted, HasAnswered, HasClosed, HasDecided, HasHandedOut, HasHeld, HasNone, HasNotTicked, HasRefused, HasStanding, HasTicked, HasUnasked, HasUnread, IsAskedBy}
use Rattle.ll_room.specs.StampedValue.{StampedValue}
use Rattle.ll_room.specs.declared.stamped.Stamp.TheVariants as stamp
use Rattle.ll_rendition.specs.declared.fault.PublishFault.{PublishFault}
use Rattle.ll_verdict.specs.declared.fault.AskFault.{AskFault}
use Rattle.ll_verdict.specs.declared.fault.ClockFault.{ClockFault}
use Rattle.ll_verdict.specs.declared.reply.Reply.{Reply}
use Rattle.ll_verdict.specs.declared.standing.Standing.{Standing}
use Rattle.ll_hub.specs.Claim.{ClaimValue}
use Rattle.ll_hub.specs.Passes.{PassValue, noted, noted_reply}
use Rattle.ll_hub_channel.specs.Deeds.{events_of}
use Rattle.ll_hub_channel.specs.Told.{IsTotalOf}
use Rattle.ll_record.specs.Chunk.{ChunkValue}
use Rattle.ll_record.specs.Taken.{TakenChunk, Takes}
use Rattle.ll_hub_channel.specs.declared.channel.AtOnce.{AtOnce}
use Rattle.ll_hub_channel.specs.declared.fault.HubFault.{HubFault}
use Rattle.ll_hub_channel.specs.declared.fault.HubFault.TheVariants.{UnknownChannel, WentBack, Room, Stranger, Short, Memory}
use Rattle.ll_hub_channel.specs.declared.fault.RoomFault.TheVariants as room
use Rattle.ll_hub_channel.specs.declared.total.Total.{Total}
use Rattle.ll_hub.specs.declared.hub.HubAsked.{HubAsked}
use Rattle.ll_hub.specs.declared.hub.HubAsked.TheVariants.{Now, Held}
use Rattle.ll_hub.specs.declared.hub.Waited.{Waited}
use Rattle.ll_hub.specs.declared.hub.Waited.TheVariants as waited

-- the channel at `place` has these settings, and a caller has seen `seen` items of it
pub record IsKnown (hub : List Configuration) (passed : List ℕ) (place : ℕ) (settings : Configuration) (seen : ℕ) : Type 0 where
  pub channel : slice_get hub place ≡ Some settings
  pub pass : slice_get passed place ≡ Some seen

-- the caller has seen more of the history, and nothing else has changed
pub record HasSeen (before after : PassValue) : Type 0 where
  pub same : after ≡ record before { history = after.history }
  pub grows : IsPrefix before.history after.history

-- why the lock of the channel at `place` isn't reached, if the caller has seen `seen` of it
abbrev pub IsUnreached : List Configuration → ℕ → Option ℕ → HubFault → Type 0
IsUnreached hub place seen UnknownChannel = slice_get hub place ≡ None
IsUnreached hub place seen Stranger = (seen ≡ None) × (settings : Configuration) × (slice_get hub place ≡ Some settings)
IsUnreached hub place seen other = ⊥

-- ---- seat

abbrev pub IsSeatFault : HubFault → Type 0
IsSeatFault Short = ⊤
IsSeatFault Memory = ⊤
IsSeatFault other = ⊥

-- ---- publish

-- an item was accepted by the channel at `place`
pub record IsPublished (hub : List Configuration) (place : ℕ) (item : Item) (before after : PassValue) (mark : StampedValue ℕ) : Type 0 where
  pub settings : Configuration
  pub seen : ℕ
  pub known : IsKnown hub before.seen place settings seen
  pub room : mark.room ≡ place
  pub stamp : mark.stamp ≡ stamp.Publish item
  pub accepted : HasAccepted before.history after.history place settings seen item mark.value
  pub passed : after ≡ record before { seen = noted before.seen place mark.value; publishes = before.publishes + 1; history = after.history }

-- an item was refused by the room of the channel at `place`
pub record IsItemRefused (hub : List Configuration) (place : ℕ) (item : Item) (before after : PassValue) (fault : PublishFault) : Type 0 where
  pub settings : Configuration
  pub seen : ℕ
  pub known : IsKnown hub before.seen place settings seen
  pub refused : HasRefused before.history after.history place settings seen item fault

-- the limit of what is counted was reached, before the room of the channel at `place` was asked
pub record IsCountedOut (hub : List Configuration) (place : ℕ) (before : List ℕ) : Type 0 where
  pub settings : Configuration
  pub seen : ℕ
  pub known : IsKnown hub before place settings seen

-- the faults of every call before its room is asked
abbrev pub IsUnmet : List Configuration → List ℕ → ℕ → HubFault → Type 0
IsUnmet hub before place UnknownChannel = slice_get hub place ≡ None
IsUnmet hub before place (WentBack seen found) = (slice_get before place ≡ Some seen) × (found < seen)
IsUnmet hub before place (Room other fault) = ⊥
IsUnmet hub before place Stranger = (settings : Configuration) × (slice_get hub place ≡ Some settings)
IsUnmet hub before place Short = IsCountedOut hub place before
IsUnmet hub before place Memory = ⊥

abbrev pub IsPublishFault : List Configuration → ℕ → Item → PassValue → PassValue → HubFault → Type 0
IsPublishFault hub place item before after (Room other (room.Publish fault)) = (other ≡ place) × IsItemRefused hub place item before after fault
IsPublishFault hub place item before after fault = IsUnmet hub before.seen place fault

-- ---- standing

-- the channel at `place` has no rendition at index `rendition`
pub record HasNoRendition (hub : List Configuration) (place rendition : ℕ) : Type 0 where
  pub settings : Configuration
  pub channel : slice_get hub place ≡ Some settings
  pub none : length settings.renditions ≤ rendition

-- where a rendition of the channel at `place` stands
pub record IsPlace (hub : List Configuration) (place rendition : ℕ) (before after : PassValue) (s : Standing) : Type 0 where
  pub settings : Configuration
  pub seen : ℕ
  pub known : IsKnown hub before.seen place settings seen
  pub stands : HasStanding before.history after.history place settings seen rendition s
  pub passed : after ≡ record before { seen = noted before.seen place s.count; history = after.history }

abbrev pub IsPlaced : List Configuration → ℕ → ℕ → PassValue → PassValue → Option Standing → Type 0
IsPlaced hub place rendition before after None = HasNoRendition hub place rendition × HasSeen before after
IsPlaced hub place rendition before after (Some s) = IsPlace hub place rendition before after s

abbrev pub IsUnplaced : List Configuration → List ℕ → ℕ → HubFault → Type 0
IsUnplaced hub before place Short = ⊥
IsUnplaced hub before place fault = IsUnmet hub before place fault

-- ---- ask

-- the result of a request, before its items are noted
pub record IsAskedThere (shows : ℕ → Type 0) (hub : List Configuration) (place : ℕ) (want : WantValue) (before after : PassValue) (answer : AtOnce) : Type 0 where
  pub settings : Configuration
  pub seen : ℕ
  pub known : IsKnown hub before.seen place settings seen
  pub asked : IsAskedBy shows before.history after.history place settings seen want answer
  pub passed : after ≡ record before { asks = before.asks + 1; history = after.history }

-- a request is answered at once
pub record IsAnsweredNow (shows : ℕ → Type 0) (hub : List Configuration) (place : ℕ) (want : WantValue) (before after : PassValue) (mark : StampedValue Reply) : Type 0 where
  pub settings : Configuration
  pub seen : ℕ
  pub known : IsKnown hub before.seen place settings seen
  pub answered : HasAnswered shows before.history after.history place settings seen want mark
  pub passed : after ≡ record before { seen = noted_reply before.seen place mark.value; asks = before.asks + 1; history = after.history }

-- a request is held
pub record IsClaimed (shows : ℕ → Type 0) (hub : List Configuration) (place : ℕ) (want : WantValue) (before after : PassValue) (claim : ClaimValue) : Type 0 where
  pub settings : Configuration
  pub seen : ℕ
  pub known : IsKnown hub before.seen place settings seen
  pub channel : claim.channel ≡ place
  pub held : HasHeld shows before.history after.history place settings seen want claim.entry
  pub passed : after ≡ record before { asks = before.asks + 1; history = after.history }

abbrev pub IsAskedOf : (ℕ → Type 0) → List Configuration → ℕ → WantValue → PassValue → PassValue → HubAsked → Type 0
IsAskedOf shows hub place want before after (Now mark) = IsAnsweredNow shows hub place want before after mark
IsAskedOf shows hub place want before after (Held claim) = IsClaimed shows hub place want before after claim

-- the room of the channel at `place` refused a request after a reading that the clock shows
pub record IsAskedInVain (shows : ℕ → Type 0) (hub : List Configuration) (place : ℕ) (before after : PassValue) (fault : AskFault) : Type 0 where
  pub settings : Configuration
  pub channel : slice_get hub place ≡ Some settings
  pub refused : HasUnasked shows before.history after.history place settings fault

-- it refused the reading before a request
pub record IsReadInVain (shows : ℕ → Type 0) (hub : List Configuration) (place : ℕ) (before after : PassValue) (fault : ClockFault) : Type 0 where
  pub settings : Configuration
  pub channel : slice_get hub place ≡ Some settings
  pub refused : HasUnread shows before.history after.history place settings fault

abbrev pub IsAskFault : (ℕ → Type 0) → List Configuration → ℕ → PassValue → PassValue → HubFault → Type 0
IsAskFault shows hub place before after (Room other (room.Publish fault)) = ⊥
IsAskFault shows hub place before after (Room other (room.Ask fault)) = (other ≡ place) × IsAskedInVain shows hub place before after fault
IsAskFault shows hub place before after (Room other (room.Clock fault)) = (other ≡ place) × IsReadInVain shows hub place before after fault
IsAskFault shows hub place before after Memory = ⊤
IsAskFault shows hub place before after fault = IsUnmet hub before.seen place fault

-- ---- wait

-- a held request got its reply
pub record IsReplied (hub : List Configuration) (claim : ClaimValue) (before after : PassValue) (mark : StampedValue Reply) : Type 0 where
  pub settings : Configuration
  pub channel : slice_get hub claim.channel ≡ Some settings
  pub room : mark.room ≡ claim.channel
  pub stamp : mark.stamp ≡ stamp.Collect claim.entry.ticket
  pub decided : HasDecided before.history after.history claim.channel settings claim.entry mark.value
  pub passed : after ≡ record before { seen = noted_reply before.seen claim.channel mark.value; history = after.history }

-- the result of waiting with a limit: the reply, or the same claim again, with nothing seen
abbrev pub IsWaited : List Configuration → ClaimValue → PassValue → PassValue → Waited → Type 0
IsWaited hub claim before after (waited.Reply mark) = IsReplied hub claim before after mark
IsWaited hub claim before after (waited.Still back) = (back ≡ claim) × (after ≡ before)

-- the request of a claim isn't open in its channel
pub record IsNoneOf (hub : List Configuration) (claim : ClaimValue) (before after : List Logged) : Type 0 where
  pub settings : Configuration
  pub channel : slice_get hub claim.channel ≡ Some settings
  pub none : HasNone before after claim.channel settings claim.entry

-- there is no channel for a claim
pub record IsOfNoChannel (hub : List Configuration) (claim : ClaimValue) (before after : List Logged) : Type 0 where
  pub none : slice_get hub claim.channel ≡ None
  pub unseen : after ≡ before

abbrev pub IsWaitFault : List Configuration → ClaimValue → List Logged → List Logged → HubFault → Type 0
IsWaitFault hub claim before after UnknownChannel = IsOfNoChannel hub claim before after
IsWaitFault hub claim before after Stranger = IsNoneOf hub claim before after
IsWaitFault hub claim before after other = ⊥

-- ---- close, tick and rotate, whose callers have a beginning of the history and need no pass

-- a held request is closed
pub record IsClosed (hub : List Configuration) (claim : ClaimValue) (before after : List Logged) : Type 0 where
  pub settings : Configuration
  pub channel : slice_get hub claim.channel ≡ Some settings
  pub closed : HasClosed before after claim.channel settings claim.entry

-- the channels from `first` up to `end`, without this one, take a reading
abbrev pub AreTicked : List Logged → List Logged → ℕ → ℕ → ℕ → Type 0
AreTicked before after first end ms = (place : ℕ) → first ≤ place → place < end → HasTicked before after place ms

-- the channel at `place` is the first that refuses it
pub record IsNotTicked (hub : List Configuration) (first place ms : ℕ) (before after : List Logged) (fault : ClockFault) : Type 0 where
  pub from : first ≤ place
  pub ticked : AreTicked before after first place ms
  pub settings : Configuration
  pub channel : slice_get hub place ≡ Some settings
  pub refused : HasNotTicked before after place settings ms fault

abbrev pub IsTickFault : List Configuration → ℕ → ℕ → List Logged → List Logged → HubFault → Type 0
IsTickFault hub first ms before after (Room place (room.Clock fault)) = IsNotTicked hub first place ms before after fault
IsTickFault hub first ms before after other = ⊥

-- the record of the channel at `place` is handed out
pub record IsRotated (hub : List Configuration) (place : ℕ) (before after : List Logged) (chunk : ChunkValue) : Type 0 where
  pub settings : Configuration
  pub channel : slice_get hub place ≡ Some settings
  pub handed_out : HasHandedOut before after place settings chunk

-- and it was handed to a sink, which has taken it once more than before, and nothing else
pub record IsHandedTo (hub : List Configuration) (place : ℕ) (before after : List Logged) (sink taken : Option (List TakenChunk)) : Type 0 where
  pub chunk : ChunkValue
  pub rotated : IsRotated hub place before after chunk
  pub takes : Takes sink taken place chunk

-- why a record is not handed out
abbrev pub IsRotateFault : List Configuration → ℕ → HubFault → Type 0
IsRotateFault hub place UnknownChannel = slice_get hub place ≡ None
IsRotateFault hub place Memory = (settings : Configuration) × (slice_get hub place ≡ Some settings)
IsRotateFault hub place other = ⊥

-- ---- finish

-- the total of the channel at `place`, by what was done to it in a beginning of the history, which has all that the passes had seen
pub record IsTotal (passes history : List Logged) (place : ℕ) (settings : Configuration) (t : Total) : Type 0 where
  pub past : List Logged
  pub seen : IsPrefix passes past
  pub whole : IsPrefix past history
  pub total : IsTotalOf settings (events_of settings (deeds_at place past)) t

-- each channel's total is that of its place
abbrev pub AreTotals : List Configuration → List Logged → List Logged → List Total → Type 0
AreTotals hub passes history totals = (place : ℕ) (settings : Configuration) (total : Total) → slice_get hub place ≡ Some settings → slice_get totals place ≡ Some total
    → IsTotal passes history place settings total

-- all totals are those of one history, of which each pass had seen a beginning
pub record IsFinished (hub : List Configuration) (passes : List PassValue) (totals : List Total) : Type 0 where
  pub seen : List Logged
  pub history : List Logged
  pub each : (place : ℕ) (pass : PassValue) → slice_get passes place ≡ Some pass → IsPrefix pass.history seen
  pub right : AreTotals hub seen history totals

-- if not all passes that were given came back, there are fewer than a hub gives at most
abbrev pub IsFinishFault : ℕ → HubFault → Type 0
IsFinishFault passes Short = passes < 65536
IsFinishFault passes Memory = ⊤
IsFinishFault passes other = ⊥

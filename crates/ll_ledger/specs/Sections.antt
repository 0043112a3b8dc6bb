-- The results of one locked section of a channel: what it does to the history, which its caller then has seen, and what is right of that.
use Rattle.std.specs.Prelude.{◌≡◌, ℕ, ⊤, List, [], ◌∷◌, ◌++◌}
use mathlib.Core.List.{IsPrefix}
use Rattle.ll_directive.specs.Targets.{WantValue}
use Rattle.ll_history.specs.History.{ChannelDeeds, IsAddedTo, IsDone, IsShown, deeds_at}
use Rattle.ll_history.specs.declared.deed.Deed.{Deed}
use Rattle.ll_history.specs.declared.deed.Deed.TheVariants as deed
use Rattle.ll_history.specs.declared.deed.Logged.{Logged}
use Rattle.ll_hub_channel.specs.Deeds.{events_of, is_filled_after, is_record_full_after}
use Rattle.ll_hub_channel.specs.Section.{IsUnmetBy}
use Rattle.ll_hub_channel.specs.Told.{IsAccepted, IsAnswered, IsAskRefused, IsDecided, IsHandedOut, IsHeld, IsOpen, IsReadingRefused, IsRefused, IsStanding}
use Rattle.ll_hub_channel.specs.declared.channel.AtOnce.{AtOnce}
use Rattle.ll_hub_channel.specs.declared.channel.AtOnce.TheVariants.{Now, Held}
use Rattle.ll_hub_channel.specs.declared.channel.Tried.{Tried}
use Rattle.ll_hub_channel.specs.declared.channel.Tried.TheVariants as tried
use Rattle.ll_hub_channel.specs.declared.fault.HubFault.{HubFault}
use Rattle.ll_hub_channel.specs.declared.fault.HubFault.TheVariants.{Room, Short, Memory}
use Rattle.ll_hub_channel.specs.declared.fault.RoomFault.TheVariants as room
use Rattle.ll_item.specs.declared.item.Item.{Item}
use Rattle.ll_record.specs.Chunk.{ChunkValue}
use Rattle.ll_record.specs.Recording.{Recording}
use Rattle.ll_rendition.specs.declared.fault.PublishFault.{PublishFault}
use Rattle.ll_room.specs.StampedValue.{StampedValue}
use Rattle.ll_room.specs.declared.stamped.Stamp.TheVariants as stamp
use Rattle.ll_settings.specs.Settings.{Configuration}
use Rattle.ll_verdict.specs.declared.entry.Entry.{Entry}
use Rattle.ll_verdict.specs.declared.fault.AskFault.{AskFault}
use Rattle.ll_verdict.specs.declared.fault.ClockFault.{ClockFault}
use Rattle.ll_verdict.specs.declared.reply.Reply.{Reply}
use Rattle.ll_verdict.specs.declared.standing.Standing.{Standing}

-- ---- items

-- the channel at `place` accepted an item, after what stands before it in the history
abbrev pub HasAccepted : List Logged → List Logged → ℕ → Configuration → ℕ → Item → ℕ → Type 0
HasAccepted before after place c seen item count = IsDone before after place (deed.Publish item) (λ deeds. IsAccepted c (events_of c deeds) item seen count)

-- it refused one, after all that was done to it
abbrev pub HasRefused : List Logged → List Logged → ℕ → Configuration → ℕ → Item → PublishFault → Type 0
HasRefused before after place c seen item fault = IsShown before after place (λ deeds. IsRefused c (events_of c deeds) (is_record_full_after c deeds) item seen fault)

-- a rendition of it stands here, after all that was done to it
abbrev pub HasStanding : List Logged → List Logged → ℕ → Configuration → ℕ → ℕ → Standing → Type 0
HasStanding before after place c seen rendition s = IsShown before after place (λ deeds. IsStanding c (events_of c deeds) rendition seen s)

-- ---- requests

-- the last deed of a channel is a reading that its clock shows
pub record IsRead (shows : ℕ → Type 0) (deeds : List Deed) : Type 0 where
  pub earlier : List Deed
  pub ms : ℕ
  pub last : deeds ≡ earlier ++ deed.Clock ms ∷ []
  pub shown : shows ms

-- a request is answered at once, after a reading and what stands before that
pub record IsRightNow (shows : ℕ → Type 0) (c : Configuration) (seen : ℕ) (want : WantValue) (number : ℕ) (reply : Reply) (deeds : List Deed) : Type 0 where
  pub read : IsRead shows deeds
  pub answered : IsAnswered c (events_of c deeds) want seen number reply

-- a request has to wait, after a reading and what stands before that
pub record IsRightLater (shows : ℕ → Type 0) (c : Configuration) (seen : ℕ) (want : WantValue) (entry : Entry) (deeds : List Deed) : Type 0 where
  pub read : IsRead shows deeds
  pub held : IsHeld c (events_of c deeds) want seen entry

-- the channel at `place` answered a request at once, as the request with this number
pub record HasAnswered (shows : ℕ → Type 0) (before after : List Logged) (place : ℕ) (c : Configuration) (seen : ℕ) (want : WantValue) (mark : StampedValue Reply) : Type 0 where
  pub number : ℕ
  pub room : mark.room ≡ place
  pub stamp : mark.stamp ≡ stamp.Ask number want
  pub answered : IsDone before after place (deed.Ask want) (IsRightNow shows c seen want number mark.value)

-- it holds a request
abbrev pub HasHeld : (ℕ → Type 0) → List Logged → List Logged → ℕ → Configuration → ℕ → WantValue → Entry → Type 0
HasHeld shows before after place c seen want entry = IsDone before after place (deed.Ask want) (IsRightLater shows c seen want entry)

-- it refuses a request after a reading, which stands in the history
pub record HasUnasked (shows : ℕ → Type 0) (before after : List Logged) (place : ℕ) (c : Configuration) (fault : AskFault) : Type 0 where
  pub ms : ℕ
  pub shown : shows ms
  pub read : IsDone before after place (deed.Clock ms) (λ deeds. IsAskRefused (is_filled_after c (deeds ++ deed.Clock ms ∷ [])) fault)

-- it refuses the reading before a request
pub record HasUnread (shows : ℕ → Type 0) (before after : List Logged) (place : ℕ) (c : Configuration) (fault : ClockFault) : Type 0 where
  pub ms : ℕ
  pub shown : shows ms
  pub refused : IsShown before after place (λ deeds. IsReadingRefused (is_filled_after c deeds) ms fault)

-- it hands out the reply to a held request
abbrev pub HasDecided : List Logged → List Logged → ℕ → Configuration → Entry → Reply → Type 0
HasDecided before after place c entry reply = IsDone before after place (deed.Collect entry.ticket) (λ deeds. IsDecided c (events_of c deeds) entry reply)

-- it closes one
abbrev pub HasClosed : List Logged → List Logged → ℕ → Configuration → Entry → Type 0
HasClosed before after place c entry = IsDone before after place (deed.Close entry.ticket) (λ deeds. IsOpen c (events_of c deeds) entry)

-- the request isn't open there
abbrev pub HasNone : List Logged → List Logged → ℕ → Configuration → Entry → Type 0
HasNone before after place c entry = IsShown before after place (λ deeds. IsOpen c (events_of c deeds) entry → ⊥)

-- ---- readings and records

-- the channel at `place` takes a reading
abbrev pub HasTicked : List Logged → List Logged → ℕ → ℕ → Type 0
HasTicked before after place ms = IsDone before after place (deed.Clock ms) (λ deeds. ⊤)

-- it refuses one
abbrev pub HasNotTicked : List Logged → List Logged → ℕ → Configuration → ℕ → ClockFault → Type 0
HasNotTicked before after place c ms fault = IsShown before after place (λ deeds. IsReadingRefused (is_filled_after c deeds) ms fault)

-- its record is handed out
abbrev pub HasHandedOut : List Logged → List Logged → ℕ → Configuration → ChunkValue → Type 0
HasHandedOut before after place c chunk = IsDone before after place deed.HandOut (λ deeds. IsHandedOut c deeds chunk)

-- ---- for private contracts: why a section refuses a call that is counted

-- the channel isn't the one that the caller knows, or the limit of what is counted is reached
abbrev pub IsUncountedBy : Recording → ℕ → Configuration → ℕ → HubFault → Type 0
IsUncountedBy r place c seen Short = ⊤
IsUncountedBy r place c seen fault = IsUnmetBy r place c seen fault

-- why an item isn't published
abbrev pub IsUnpublishedBy : Recording → List Logged → List Logged → ℕ → Configuration → ℕ → Item → HubFault → Type 0
IsUnpublishedBy r before after place c seen item (Room other (room.Publish fault)) = (other ≡ place) × HasRefused before after place c seen item fault
IsUnpublishedBy r before after place c seen item (Room other fault) = ⊥
IsUnpublishedBy r before after place c seen item fault = IsUncountedBy r place c seen fault

-- why a request isn't made
abbrev pub IsUnaskedBy : (ℕ → Type 0) → Recording → List Logged → List Logged → ℕ → Configuration → ℕ → HubFault → Type 0
IsUnaskedBy shows r before after place c seen (Room other (room.Publish fault)) = ⊥
IsUnaskedBy shows r before after place c seen (Room other (room.Ask fault)) = (other ≡ place) × HasUnasked shows before after place c fault
IsUnaskedBy shows r before after place c seen (Room other (room.Clock fault)) = (other ≡ place) × HasUnread shows before after place c fault
IsUnaskedBy shows r before after place c seen Memory = ⊤
IsUnaskedBy shows r before after place c seen fault = IsUncountedBy r place c seen fault

-- the result of a request
abbrev pub IsAskedBy : (ℕ → Type 0) → List Logged → List Logged → ℕ → Configuration → ℕ → WantValue → AtOnce → Type 0
IsAskedBy shows before after place c seen want (Now mark) = HasAnswered shows before after place c seen want mark
IsAskedBy shows before after place c seen want (Held entry) = HasHeld shows before after place c seen want entry

-- what a refused request does to the history of its channel: a reading is added if it was taken, and else nothing
abbrev pub IsNoted : ChannelDeeds → ChannelDeeds → ℕ → HubFault → List Logged → List Logged → Type 0
IsNoted old new ms (Room other (room.Ask fault)) before after = IsAddedTo old (deed.Clock ms) before after × (new ≡ record old { deeds = old.deeds ++ deed.Clock ms ∷ [] })
IsNoted old new ms (Room other fault) before after = IsPrefix before after × (deeds_at old.place after ≡ old.deeds) × (new ≡ old)
IsNoted old new ms fault before after = (after ≡ before) × (new ≡ old)

-- the result of asking for a reply
abbrev pub IsTriedBy : List Logged → List Logged → ℕ → Configuration → Entry → Tried → Type 0
IsTriedBy before after place c entry (tried.Got mark) = (mark.room ≡ place) × (mark.stamp ≡ stamp.Collect entry.ticket) × HasDecided before after place c entry mark.value
IsTriedBy before after place c entry tried.Still = after ≡ before
IsTriedBy before after place c entry tried.Stranger = HasNone before after place c entry

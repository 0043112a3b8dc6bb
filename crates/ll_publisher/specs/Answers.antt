-- The answers to a publisher's line.
use Rattle.std.specs.Prelude.{◌≡◌, ◌≢◌, ◌⊎◌, ℕ, List, Option, Some, None, Result, Ok, Err, if◌then◌else◌, length, nat_le, slice_get}
use Rattle.ll_item.specs.Items.{item_in, named}
use Rattle.ll_item.specs.Media.{media_limit}
use Rattle.ll_settings.specs.Settings.{Configuration}
use Rattle.ll_item.specs.declared.item.Item.{Item}
use Rattle.ll_item.specs.declared.item.ItemFault.{ItemFault}
use Rattle.ll_settings.specs.Channels.{channel_of_name}
use Rattle.ll_publish.specs.Line as says
use Rattle.ll_publish.specs.Refusals.{item_refusal, out_of_memory}
use Rattle.ll_publish.specs.declared.refusal.Refusal.{Refusal}
use Rattle.ll_publish.specs.declared.refusal.Refusal.TheVariants as refusal
use Rattle.ll_publish.specs.declared.refusal.Refusal.TheVariants.{BadLine, UnknownChannel, LineTooLong, MediaTooLong}
use Rattle.ll_publish.specs.declared.success.Success.{Success}
use Rattle.ll_publish.specs.declared.success.Success.TheVariants as success
use Rattle.ll_rendition.specs.declared.fault.PublishFault.{PublishFault}
use Rattle.ll_hub_channel.specs.declared.fault.HubFault.{HubFault}
use Rattle.ll_hub_channel.specs.declared.fault.HubFault.TheVariants as hub
use Rattle.ll_ledger.specs.Sections.{HasAccepted, HasRefused, HasStanding}
use Rattle.ll_history.specs.declared.deed.Logged.{Logged}
use Rattle.ll_hub.specs.Passes.{PassValue}
use Rattle.ll_hub_channel.specs.declared.fault.RoomFault.TheVariants as room
use Rattle.ll_verdict.specs.declared.standing.Standing.{Standing}
use Rattle.ll_room.specs.StampedValue.{StampedValue}
use Rattle.ll_room.specs.declared.stamped.Stamp.TheVariants as stamp
use Rattle.ll_service.specs.declared.fault.LinkFault.{LinkFault}
use Rattle.ll_service.specs.declared.fault.LinkFault.TheVariants.{Hub}

abbrev pub refused_item : Result Item ItemFault → Option Refusal
refused_item (Ok item) = None
refused_item (Err fault) = Some (item_refusal fault)

abbrev pub refused_in : Option (ℕ × Configuration) → (text media : List ℕ) → Option Refusal
refused_in None text media = Some UnknownChannel
refused_in (Some found) text media = refused_item (item_in found.1 text media)

-- why the place of a rendition isn't given
abbrev pub refused_name : Result ℕ ItemFault → Option Refusal
refused_name (Ok index) = None
refused_name (Err fault) = Some (item_refusal fault)

abbrev pub refused_place : Option (ℕ × Configuration) → (rendition : List ℕ) → Option Refusal
refused_place None rendition = Some UnknownChannel
refused_place (Some found) rendition = refused_name (named found.1 rendition)

-- why a line is refused before the room of a channel is asked; none if it announces an item of one of the hub's channels, or asks for the
-- place of a rendition of one
abbrev pub refused_before : List Configuration → says.Line → Option Refusal
refused_before channels (says.Item name text media) =
    if nat_le (length media) media_limit then refused_in (channel_of_name channels 0 name) text media else Some MediaTooLong
refused_before channels (says.At name rendition) = refused_place (channel_of_name channels 0 name) rendition
refused_before channels says.Bad = Some BadLine
refused_before channels says.TooLong = Some LineTooLong
refused_before channels says.MediaTooLong = Some MediaTooLong

-- An item was published: the channel at `place` accepted the item that is spelled `text` and has the bytes `media` as its item of the number
-- `mark.value`. It stands in the hub's history, which its caller has seen up to `history` then: after all that the caller had seen before.
pub record IsItemOf (c : Configuration) (place : ℕ) (before : PassValue) (history : List Logged) (text media : List ℕ) (mark : StampedValue ℕ) : Type 0 where
  pub item : Item
  pub read : item_in c text media ≡ Ok item
  pub room : mark.room ≡ place
  pub stamp : mark.stamp ≡ stamp.Publish item
  pub seen : ℕ
  pub pass : slice_get before.seen place ≡ Some seen
  pub accepted : HasAccepted before.history history place c seen item mark.value

-- An item was refused: after all that was done to it up to `history`, the channel at `place` refused the item that is spelled `text` and has the
-- bytes `media`, by its first rule that refuses it.
pub record IsRuledOut (c : Configuration) (place : ℕ) (before : PassValue) (history : List Logged) (text media : List ℕ) (reason : Refusal) : Type 0 where
  pub item : Item
  pub read : item_in c text media ≡ Ok item
  pub seen : ℕ
  pub pass : slice_get before.seen place ≡ Some seen
  pub fault : PublishFault
  pub rule : HasRefused before.history history place c seen item fault
  pub told : reason ≡ refusal.Rule fault

-- both, in the channel of the hub that is named `name`
pub record IsItemIn (channels : List Configuration) (before : PassValue) (history : List Logged) (name text media : List ℕ) (mark : StampedValue ℕ) : Type 0 where
  pub place : ℕ
  pub settings : Configuration
  pub known : channel_of_name channels 0 name ≡ Some (place, settings)
  pub item : IsItemOf settings place before history text media mark

pub record IsRuledOutIn (channels : List Configuration) (before : PassValue) (history : List Logged) (name text media : List ℕ) (reason : Refusal) : Type 0 where
  pub place : ℕ
  pub settings : Configuration
  pub known : channel_of_name channels 0 name ≡ Some (place, settings)
  pub rule : IsRuledOut settings place before history text media reason

-- what a line announces was published, its item with its bytes in the channel of its name; or was refused by a rule of that channel
abbrev pub IsAnnounced : List Configuration → PassValue → List Logged → says.Line → StampedValue ℕ → Type 0
IsAnnounced channels before history (says.Item name text media) mark = IsItemIn channels before history name text media mark
IsAnnounced channels before history (says.At name rendition) mark = ⊥
IsAnnounced channels before history says.Bad mark = ⊥
IsAnnounced channels before history says.TooLong mark = ⊥
IsAnnounced channels before history says.MediaTooLong mark = ⊥

abbrev pub IsOverruled : List Configuration → PassValue → List Logged → says.Line → Refusal → Type 0
IsOverruled channels before history (says.Item name text media) reason = IsRuledOutIn channels before history name text media reason
IsOverruled channels before history (says.At name rendition) reason = ⊥
IsOverruled channels before history says.Bad reason = ⊥
IsOverruled channels before history says.TooLong reason = ⊥
IsOverruled channels before history says.MediaTooLong reason = ⊥

-- why an item or a line is refused: before any room is asked, or by a rule of its channel; unless out of memory
abbrev pub IsReason : Option Refusal → (Refusal → Type 0) → Refusal → Type 0
IsReason before Ruled reason = reason ≢ out_of_memory → (before ≡ Some reason) ⊎ Ruled reason

abbrev pub IsAnswer : Option Refusal → (StampedValue ℕ → Type 0) → (Refusal → Type 0) → Result (StampedValue ℕ) Refusal → Type 0
IsAnswer before Published Ruled (Ok mark) = Published mark
IsAnswer before Published Ruled (Err reason) = IsReason before Ruled reason

-- the answer to an item that is spelled `text` and has the bytes `media`, in the channel at `place`, of a caller with this pass before, who has then
-- seen the history up to `history`
abbrev pub IsAnswerAt : Configuration → (place : ℕ) → PassValue → (history : List Logged) → (text media : List ℕ) → Result (StampedValue ℕ) Refusal → Type 0
IsAnswerAt c place before history text media answer =
    IsAnswer (refused_item (item_in c text media)) (IsItemOf c place before history text media) (IsRuledOut c place before history text media) answer

-- where a rendition stands in the hub's channel named `name`, after all that was done to it up to `history`
pub record IsPlaceIn (channels : List Configuration) (before : PassValue) (history : List Logged) (name rendition : List ℕ) (s : Standing) : Type 0 where
  pub place : ℕ
  pub settings : Configuration
  pub known : channel_of_name channels 0 name ≡ Some (place, settings)
  pub index : ℕ
  pub named : named settings rendition ≡ Ok index
  pub seen : ℕ
  pub pass : slice_get before.seen place ≡ Some seen
  pub stands : HasStanding before.history history place settings seen index s

-- the line asks for a place, and this is it
abbrev pub IsPlaceAsked : List Configuration → PassValue → List Logged → says.Line → Standing → Type 0
IsPlaceAsked channels before history (says.At name rendition) s = IsPlaceIn channels before history name rendition s
IsPlaceAsked channels before history (says.Item name text media) s = ⊥
IsPlaceAsked channels before history says.Bad s = ⊥
IsPlaceAsked channels before history says.TooLong s = ⊥
IsPlaceAsked channels before history says.MediaTooLong s = ⊥

-- the answer to a line that isn't refused: the number of its item, or the place that it asks for
abbrev pub IsSuccess : List Configuration → PassValue → List Logged → says.Line → Success → Type 0
IsSuccess channels before history line (success.Accepted count) = (mark : StampedValue ℕ) × (mark.value ≡ count) × IsAnnounced channels before history line mark
IsSuccess channels before history line (success.NotKept count) = (mark : StampedValue ℕ) × (mark.value ≡ count) × IsAnnounced channels before history line mark
IsSuccess channels before history line (success.Standing s) = IsPlaceAsked channels before history line s
IsSuccess channels before history line success.Opened = ⊥

-- why a line is refused; a question for a place only for what is found before any room is asked
abbrev pub IsLineReason : List Configuration → PassValue → List Logged → says.Line → Refusal → Type 0
IsLineReason channels before history (says.Item name text media) reason =
    IsReason (refused_before channels (says.Item name text media)) (IsOverruled channels before history (says.Item name text media)) reason
IsLineReason channels before history (says.At name rendition) reason = refused_before channels (says.At name rendition) ≡ Some reason
IsLineReason channels before history says.Bad reason = reason ≡ BadLine
IsLineReason channels before history says.TooLong reason = reason ≡ LineTooLong
IsLineReason channels before history says.MediaTooLong reason = reason ≡ MediaTooLong

-- the answer to an item that the hub refuses; no refusal of the channel's room ends the connection with Hub
abbrev pub refused_by : HubFault → Result Refusal LinkFault
refused_by (hub.Room place (room.Publish fault)) = Ok (refusal.Rule fault)
refused_by other = Err Hub

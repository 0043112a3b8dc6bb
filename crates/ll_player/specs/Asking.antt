-- The answers to a player's request, which is made of the channel of its name.
use Rattle.std.specs.Prelude.{◌≡◌, ◌⊎◌, ℕ, List, Option, Some, None, Result, Ok, Err}
use Rattle.ll_directive.specs.Targets.{WantValue}
use Rattle.ll_directive.specs.declared.fault.TargetFault.TheVariants.{NotFound}
use Rattle.ll_hub.specs.Calls.{HasSeen, IsAnsweredNow, IsAskedInVain, IsClaimed, IsReadInVain, IsReplied}
use Rattle.ll_hub.specs.Claim.{ClaimValue}
use Rattle.ll_hub.specs.Passes.{PassValue}
use Rattle.ll_hub_channel.specs.declared.fault.HubFault.{HubFault}
use Rattle.ll_hub_channel.specs.declared.fault.HubFault.TheVariants as hub
use Rattle.ll_hub_channel.specs.declared.fault.RoomFault.TheVariants as room
use Rattle.ll_room.specs.StampedValue.{StampedValue}
use Rattle.ll_service.specs.declared.fault.LinkFault.{LinkFault}
use Rattle.ll_service.specs.declared.fault.LinkFault.TheVariants.{Hub}
use Rattle.ll_settings.specs.Channels.{channel_of_name}
use Rattle.ll_settings.specs.Settings.{Configuration}
use Rattle.ll_verdict.specs.declared.fault.AskFault.{AskFault}
use Rattle.ll_verdict.specs.declared.fault.AskFault.TheVariants.{RecordFull, Memory}
use Rattle.ll_verdict.specs.declared.fault.ClockFault.TheVariants as reading
use Rattle.ll_verdict.specs.declared.reply.Reply.{Reply}
use Rattle.ll_wire.specs.declared.answer.Answer.{Answer}
use Rattle.ll_wire.specs.declared.answer.Answer.TheVariants as answer

-- why a request is unavailable that the hub refuses; every refusal but for a full record or out of memory ends the connection with Hub
abbrev pub unavailable_by : HubFault → Result AskFault LinkFault
unavailable_by (hub.Room place (room.Ask fault)) = Ok fault
unavailable_by (hub.Room place (room.Clock reading.RecordFull)) = Ok RecordFull
unavailable_by (hub.Room place (room.Clock reading.Memory)) = Ok Memory
unavailable_by hub.Memory = Ok Memory
unavailable_by other = Err Hub

-- Why the channel at `place` takes no request: out of memory; or its record is full, by all that was done to it up to where the caller has then
-- seen the history. Such a request is none of the channel's.
abbrev pub IsUnmade : (ℕ → Type 0) → List Configuration → (place : ℕ) → (before after : PassValue) → AskFault → Type 0
IsUnmade shows hub place before after Memory = HasSeen before after
IsUnmade shows hub place before after RecordFull =
    HasSeen before after × (IsAskedInVain shows hub place before after RecordFull ⊎ IsReadInVain shows hub place before after reading.RecordFull)

-- what the channel at `place` answers to a request at once
abbrev pub IsToldAt : (ℕ → Type 0) → List Configuration → (place : ℕ) → WantValue → (before after : PassValue) → Answer → Type 0
IsToldAt shows hub place want before after (answer.Reply reply) = (mark : StampedValue Reply) × (reply ≡ mark.value) × IsAnsweredNow shows hub place want before after mark
IsToldAt shows hub place want before after (answer.Unavailable reason) = IsUnmade shows hub place before after reason
IsToldAt shows hub place want before after other = ⊥

-- the same of the channel that was found by its name, if there is one
abbrev pub IsToldIn : (ℕ → Type 0) → List Configuration → Option (ℕ × Configuration) → WantValue → (before after : PassValue) → Answer → Type 0
IsToldIn shows hub None want before after told = (told ≡ answer.Target NotFound) × (after ≡ before)
IsToldIn shows hub (Some found) want before after told = IsToldAt shows hub found.0 want before after told

-- a request is answered so at once
abbrev pub IsToldNow : (ℕ → Type 0) → List Configuration → WantValue → (before after : PassValue) → Answer → Type 0
IsToldNow shows hub want before after told = IsToldIn shows hub (channel_of_name hub 0 want.channel) want before after told

-- the channel that was found holds a request, for whose reply the claim stands
abbrev pub IsHeldIn : (ℕ → Type 0) → List Configuration → Option (ℕ × Configuration) → WantValue → (before after : PassValue) → ClaimValue → Type 0
IsHeldIn shows hub None want before after claim = ⊥
IsHeldIn shows hub (Some found) want before after claim = IsClaimed shows hub found.0 want before after claim

-- a request is held, and the claim stands for its reply
abbrev pub IsHeldNow : (ℕ → Type 0) → List Configuration → WantValue → (before after : PassValue) → ClaimValue → Type 0
IsHeldNow shows hub want before after claim = IsHeldIn shows hub (channel_of_name hub 0 want.channel) want before after claim

-- the answer is the reply that this claim stands for
pub record IsReplyTo (hub : List Configuration) (claim : ClaimValue) (before after : PassValue) (told : Answer) : Type 0 where
  pub mark : StampedValue Reply
  pub same : told ≡ answer.Reply mark.value
  pub replied : IsReplied hub claim before after mark

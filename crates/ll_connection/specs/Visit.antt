-- One connection and the rooms: how bytes and replies change its session and the channels.
use Rattle.std.specs.Prelude.{ℕ, List, [], ◌∷◌, Bool, true, false, Option, Some, None, fold, length}
use Rattle.ll_directive.specs.Targets.{WantValue}
use Rattle.ll_directive.specs.declared.fault.TargetFault.TheVariants.{NotFound}
use Rattle.ll_script_rooms.specs.declared.owner.Owner.TheVariants.{Connection}
use Rattle.ll_settings.specs.Settings.{Configuration}
use Rattle.ll_settings.specs.Channels.{channel_of_name}
use Rattle.ll_session.specs.Past.{next_entries, overflows}
use Rattle.ll_session.specs.Requests.{Entry}
use Rattle.ll_session.specs.Talk.{SessionValue, fed, muted, next_want, pulled, replied}
use Rattle.ll_verdict.specs.declared.reply.Reply.{Reply}
use Rattle.ll_wire.specs.declared.answer.Answer.{Answer}
use Rattle.ll_wire.specs.declared.answer.Answer.TheVariants as player
use Rattle.ll_verdict.specs.declared.fault.AskFault.TheVariants.{Memory, RecordFull}
use Rattle.ll_script_rooms.specs.World.{World, all_settings, ask, close, repeat, silent}
use Rattle.ll_script_rooms.specs.declared.answer.ActAnswer as rooms
use Rattle.ll_script_rooms.specs.declared.answer.ActAnswer.TheVariants.{Accepted, Refused, ClockRefused, Replied, Unavailable}

-- the session of a connection, and the channels of a script with the requests that wait in them
pub record Visit : Type 0 where
  pub session : SessionValue
  pub rooms : World

-- ---- memory

-- for which steps there is memory while a connection's next request is handed in
pub record Luck : Type 0 where
  -- for taking it from the bytes, and for answers to what is refused before it; else the connection shuts
  pub takes : Bool
  -- for the request in its channel; else it is no event, and is answered with Memory
  pub asks : Bool
  -- for its answer; else the connection shuts
  pub answers : Bool

-- memory for all steps
abbrev pub enough : Luck
enough = record { takes = true; asks = true; answers = true }

-- ---- a request is made

-- what a player gets for the rooms' answer to its request
abbrev pub spoken : rooms.ActAnswer → Option Answer
spoken (Accepted count) = None
spoken (Refused fault) = None
spoken (ClockRefused fault) = None
spoken (Replied owner reply) = Some (player.Reply reply)
spoken (Unavailable owner) = Some (player.Unavailable RecordFull)

abbrev pub first_spoken : List rooms.ActAnswer → Option Answer
first_spoken [] = None
first_spoken (a ∷ more) = spoken a

-- the channels after a request, and its answer unless it waits
pub record Asked : Type 0 where
  pub rooms : World
  pub answer : Option Answer

abbrev pub heard : World → Asked
heard w = record { rooms = silent w; answer = first_spoken w.answers }

-- connection `n` makes a request of the channel at `place`, with memory for it or not
abbrev pub ask_at : Bool → ℕ → ℕ → WantValue → World → Asked
ask_at true n place want w = heard (ask (Connection n) place want (silent w))
ask_at false n place want w = record { rooms = w; answer = Some (player.Unavailable Memory) }

abbrev pub ask_in : Bool → ℕ → WantValue → World → Option (ℕ × Configuration) → Asked
ask_in found n want w None = record { rooms = w; answer = Some (player.Target NotFound) }
ask_in found n want w (Some channel) = ask_at found n channel.0 want w

-- connection `n` makes a request of the channel that the request names, with memory for it or not; NotFound if there is no such channel
-- (rule 26)
abbrev pub asked : Bool → ℕ → WantValue → World → Asked
asked found n want w = ask_in found n want w (channel_of_name (all_settings w) 0 want.channel)

-- ---- bytes come

abbrev pub close_if : Bool → ℕ → World → World
close_if true n w = close (Connection n) w
close_if false n w = w

-- The bytes `piece` came. If there are too many after a request that waits, it is closed.
abbrev pub came : ℕ → List ℕ → Visit → Visit
came n piece v = record { session = fed v.session piece; rooms = close_if (overflows v.session piece) n v.rooms }

-- ---- requests are handed in

-- the answer to the want that is out is put out if there is memory for it; else the session shuts
abbrev pub put_out_by : Option Bool → Bool → SessionValue → Answer → SessionValue
put_out_by None found s answer = s
put_out_by (Some keep) true s answer = replied s answer
put_out_by (Some keep) false s answer = muted s

abbrev pub put_out : Bool → SessionValue → Answer → SessionValue
put_out found s answer = put_out_by s.out found s answer

-- a request is answered, or it waits; then too many bytes may have come after it already
abbrev pub answered_by : Bool → ℕ → SessionValue → World → Option Answer → Visit
answered_by found n s w (Some answer) = record { session = put_out found s answer; rooms = w }
answered_by found n s w None = came n [] (record { session = s; rooms = w })

abbrev pub answered : Bool → ℕ → SessionValue → Asked → Visit
answered found n s a = answered_by found n s a.rooms a.answer

abbrev pub step_by : Luck → ℕ → Visit → Option WantValue → Visit
step_by luck n v None = v
step_by luck n v (Some want) = answered luck.answers n v.session (asked luck.asks n want v.rooms)

abbrev pub muted_if : List Entry → SessionValue → SessionValue
muted_if [] s = s
muted_if (e ∷ entries) s = muted s

abbrev pub step_if : Bool → Luck → ℕ → Visit → Visit
step_if true luck n v = step_by luck n (record v { session = pulled v.session }) (next_want v.session)
step_if false luck n v = record v { session = muted_if (next_entries v.session) v.session }

-- the session's next want is handed in, if it has one; if there is nothing to take, no memory is needed
abbrev pub step : Luck → ℕ → Visit → Visit
step luck n v = step_if luck.takes luck n v

-- All requests are handed in, up to one that waits, with memory for each. A request has at least one byte, so there are no more of them
-- than bytes.
unfoldable pub hand_all : ℕ → Visit → Visit
hand_all n v = repeat (step enough n) (length v.session.unread) v

-- All requests are handed in, up to one that waits: the first ones with these lucks, the others with memory for all steps.
abbrev pub submit : List Luck → ℕ → Visit → Visit
submit lucks n v = hand_all n (fold (λ u luck. step luck n u) v lucks)

-- ---- what comes to a connection

-- the bytes `piece` came, and all requests are handed in, up to one that waits
abbrev pub arrived : List Luck → ℕ → List ℕ → Visit → Visit
arrived lucks n piece v = submit lucks n (came n piece v)

-- the request that waited gets `reply`, and all requests are handed in, up to one that waits; the first luck is for the reply
abbrev pub released : List Luck → ℕ → Reply → Visit → Visit
released [] n reply v = submit [] n (record v { session = put_out true v.session (player.Reply reply) })
released (luck ∷ lucks) n reply v = submit lucks n (record v { session = put_out luck.answers v.session (player.Reply reply) })

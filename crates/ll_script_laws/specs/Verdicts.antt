-- Which answers are right for the requests of a connection.
use Rattle.std.specs.Prelude.{◌≡◌, ℕ, ◌+◌, List, [], ◌∷◌, ◌++◌, true, Option, Some, None, flat_map, length, map, option_map, slice_get}
use Rattle.std.specs.Option.{option_or}
use Rattle.ll_settings.specs.Settings.{Configuration}
use Rattle.ll_settings.specs.Channels.{channel_of_name}
use Rattle.ll_directive.specs.Targets.{WantValue}
use Rattle.ll_directive.specs.declared.fault.TargetFault.TheVariants.{NotFound}
use Rattle.ll_verdict.specs.Full.{is_full}
use Rattle.ll_session.specs.Requests.{Entry, Wanted, Refused, Faulty}
use Rattle.ll_verdict.specs.Events.{Event, Ask, asks}
use Rattle.ll_verdict.specs.Verdict.{at_once, held, reply, reply_of, wanted_of}
use Rattle.ll_verdict.specs.declared.reply.Reply.{Reply}
use Rattle.ll_verdict.specs.declared.wanted.Wanted as asked
use Rattle.ll_wire.specs.declared.answer.Answer.{Answer}
use Rattle.ll_wire.specs.declared.answer.Answer.TheVariants as player
use Rattle.ll_verdict.specs.declared.fault.AskFault.TheVariants as out
use Rattle.ll_script_rooms.specs.World.{Channel}

abbrev pub later_by : Configuration → List Event → List Event → Option asked.Wanted → Option Reply
later_by c events before None = None
later_by c events before (Some a) = option_map reply_of (reply c events (record { ticket = asks before + 1; wanted = a; before = before }))

-- The reply to a request that was made after the events `before`, by all events of its channel: at once, or if it had to wait, by the
-- event that decides it. `None` while it waits, and if it was closed.
abbrev pub verdict : Configuration → List Event → List Event → WantValue → Option Reply
verdict c events before want = option_or (at_once c (held c before) before want) (later_by c events before (wanted_of c want))

abbrev pub settings_of : List Channel → List Configuration
settings_of channels = map (λ (c : Channel). c.settings) channels

-- the channel at `place` is the one that the request `want` names
pub record IsNamed (channels : List Channel) (want : WantValue) (place : ℕ) (channel : Channel) : Type 0 where
  pub there : slice_get channels place ≡ Some channel
  pub named : channel_of_name (settings_of channels) 0 want.channel ≡ Some (place, channel.settings)

-- `answer` is right for the request `want`, by all that happened in the channels
pub data IsAnswer (channels : List Channel) (want : WantValue) (answer : Answer) : Type 0 where
  -- the request is one of its channel's events, and the answer is its verdict
  Replied : (place : ℕ) (channel : Channel) (before later : List Event) (a : Reply) → IsNamed channels want place channel
      → channel.events ≡ before ++ Ask want ∷ later → verdict channel.settings channel.events before want ≡ Some a
      → answer ≡ player.Reply a → IsAnswer channels want answer
  -- its channel was full of events
  Full : (place : ℕ) (channel : Channel) (before later : List Event) → IsNamed channels want place channel → channel.events ≡ before ++ later
      → is_full (length before) ≡ true → answer ≡ player.Unavailable out.RecordFull → IsAnswer channels want answer
  -- it was out of memory
  Memory : (place : ℕ) (channel : Channel) → IsNamed channels want place channel → answer ≡ player.Unavailable out.Memory → IsAnswer channels want answer
  -- none of the channels that were declared by then has the name
  Unknown : (declared later : List Configuration) → settings_of channels ≡ declared ++ later → channel_of_name declared 0 want.channel ≡ None
      → answer ≡ player.Target NotFound → IsAnswer channels want answer

abbrev pub want_of : Entry → List WantValue
want_of (Wanted want keep) = want ∷ []
want_of (Refused fault keep) = []
want_of (Faulty fault) = []

-- the wants of requests that ask a channel for something, in order
abbrev pub wants_of : List Entry → List WantValue
wants_of entries = flat_map want_of entries

-- each answer is right for the request at the same place; the last requests, `unanswered`, have none
abbrev pub AreAnswered : List Channel → List WantValue → List Answer → List WantValue → Type 0
AreAnswered channels wants [] unanswered = wants ≡ unanswered
AreAnswered channels [] (a ∷ answers) unanswered = ⊥
AreAnswered channels (want ∷ wants) (a ∷ answers) unanswered = IsAnswer channels want a × AreAnswered channels wants answers unanswered

-- What a request would get if it were made now, decided before it is made.
use Rattle.std.specs.Prelude.{◌≡◌, ◌<◌, ⊤, List, Option, Some, None, is_some, length, true}
use Rattle.ll_directive.specs.Targets.{WantValue}
use Rattle.ll_presentation.specs.Here as here
use Rattle.ll_verdict.specs.Events.{Event}
use Rattle.ll_verdict.specs.State.{waiting_in}
use Rattle.ll_verdict.specs.Verdict.{at_once, held, waiting_limit, wanted_of}
use Rattle.ll_verdict.specs.declared.reply.Reply.{Reply}
use Rattle.ll_verdict.specs.declared.reply.Reply.TheVariants as now
use Rattle.ll_verdict.specs.declared.wanted.Wanted.{Wanted}
use Rattle.ll_room.specs.RoomValue.{RoomValue, Stands, presentation_in}
use Rattle.ll_room.specs.declared.decision.Decision.{Decision}
use Rattle.ll_room.specs.declared.decision.Decision.TheVariants.{NotFound, There, TooFar, Busy, Waits}

-- the requested playlist or media as it is now, if it is there
abbrev pub reply_here : RoomValue → Wanted → Option Reply
reply_here h a = here.reply_here (presentation_in h) a

-- the reply at once, if there is one
abbrev pub reply_in : RoomValue → Decision → Option Reply
reply_in h NotFound = Some now.NotFound
reply_in h (There a) = reply_here h a
reply_in h TooFar = Some now.TooFar
reply_in h Busy = Some now.Busy
reply_in h (Waits a) = None

-- a request that gets what it is for, or waits, asks for `a`, of a rendition of the channel; if it waits, fewer wait than the limit
abbrev pub IsFor : RoomValue → WantValue → Decision → Type 0
IsFor h want NotFound = ⊤
IsFor h want (There a) = (wanted_of h.settings want ≡ Some a) × (a.rendition < length h.renditions) × (is_some (reply_here h a) ≡ true)
IsFor h want TooFar = ⊤
IsFor h want Busy = ⊤
IsFor h want (Waits a) = (wanted_of h.settings want ≡ Some a) × (waiting_in h.slots < waiting_limit)

-- the reply at once is that of the definitions, whatever events the room stands for
pub record IsDecided (h : RoomValue) (want : WantValue) (d : Decision) : Type 0 where
  pub asks : IsFor h want d
  pub reply : (events : List Event) → Stands h events → at_once h.settings (held h.settings events) events want ≡ reply_in h d

-- `d` was decided for some request
abbrev pub IsDecidedOfOne : RoomValue → Decision → Type 0
IsDecidedOfOne h d = (want : WantValue) × IsDecided h want d

-- The results of the calls of a room.
use Rattle.std.specs.Prelude.{ℕ, ◌+◌, ◌==◌, ◌&&◌, List, [], ◌∷◌, Bool, true, false, Option, Some, None, if◌then◌else◌}
use Rattle.std.specs.List.{list_any}
use Rattle.ll_directive.specs.Targets.{WantValue}
use Rattle.ll_verdict.specs.Waiting.{has_ticket, reply_at}
use Rattle.ll_verdict.specs.Verdict.{reply_of}
use Rattle.ll_verdict.specs.declared.reply.Reply.{Reply}
use Rattle.ll_verdict.specs.declared.reply.Settled.{Settled}
use Rattle.ll_room.specs.RoomValue.{RoomValue, less}
use Rattle.ll_room.specs.StampedValue.{StampedValue}
use Rattle.ll_room.specs.Ticket.{Ticket}
use Rattle.ll_room.specs.declared.asked.Asked.{Asked}
use Rattle.ll_room.specs.declared.asked.Asked.TheVariants.{Now, Held}
use Rattle.ll_room.specs.declared.asked.Collected.{Collected}
use Rattle.ll_room.specs.declared.asked.Collected.TheVariants.{Got, Still, Stranger}
use Rattle.ll_room.specs.declared.asked.Closed.{Closed}
use Rattle.ll_room.specs.declared.asked.Closed.TheVariants as given_up
use Rattle.ll_room.specs.declared.stamped.Stamp.TheVariants as stamp

-- the result of a request: its reply at once, or that it is held under the next ticket
abbrev pub asked : RoomValue → WantValue → Option Reply → Asked
asked h want (Some reply) = Now (record { room = h.channel; stamp = stamp.Ask (h.asks + 1) want; value = reply })
asked h want None = Held (record { channel = h.channel; ticket = h.asks + 1 })

-- the ticket of the request, if it is held
abbrev pub new_tickets : Asked → List ℕ
new_tickets (Now reply) = []
new_tickets (Held parked) = parked.ticket ∷ []

-- the tickets `list` without that of the request, if it is held
abbrev pub others : Asked → List ℕ → List ℕ
others (Now reply) list = list
others (Held parked) list = less parked.ticket list

abbrev pub collected_by : Ticket → Option Settled → Bool → Collected
collected_by p (Some settled) here = Got (record { room = p.channel; stamp = stamp.Collect p.ticket; value = reply_of settled })
collected_by p None true = Still p
collected_by p None false = Stranger p

-- the reply to request `ticket`, as its room hands it out
abbrev pub collected_at : RoomValue → ℕ → Settled → StampedValue Reply
collected_at h ticket settled = record { room = h.channel; stamp = stamp.Collect ticket; value = reply_of settled }

-- the reply at once, if there is one
abbrev pub now_in : Asked → Option (StampedValue Reply)
now_in (Now reply) = Some reply
now_in (Held parked) = None

-- whether request `ticket` is open
abbrev pub is_open : RoomValue → ℕ → Bool
is_open h ticket = list_any (has_ticket ticket) h.slots

-- the result of asking for the reply to a held request
abbrev pub collected : RoomValue → Ticket → Collected
collected h p = if p.channel == h.channel then collected_by p (reply_at p.ticket h.slots) (is_open h p.ticket) else Stranger p

abbrev pub is_got : Collected → Bool
is_got (Got reply) = true
is_got (Still p) = false
is_got (Stranger p) = false

-- the result of closing a held request
abbrev pub closed : RoomValue → Ticket → Closed
closed h p = if p.channel == h.channel && is_open h p.ticket then given_up.Done else given_up.Stranger p

abbrev pub is_done : Closed → Bool
is_done given_up.Done = true
is_done (given_up.Stranger p) = false

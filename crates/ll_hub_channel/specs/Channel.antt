-- For private contracts: what is kept under a channel's lock.
use Rattle.std.specs.Prelude.{◌≡◌, ℕ, ◌==◌, List, Bool, map}
use Rattle.ll_record.specs.Recording.{IsRecorded, Recording}
use Rattle.ll_room.specs.RoomValue.{AreDistinct, tickets}
use Rattle.ll_room.specs.Ticket.{Ticket}
use Rattle.ll_verdict.specs.Events.{Event}

abbrev pub ticket_at : ℕ → ℕ → Ticket
ticket_at channel ticket = record { channel = channel; ticket = ticket }

-- whether a value stands for the request of this ticket
abbrev pub is_of : ℕ → Ticket → Bool
is_of ticket p = p.ticket == ticket

-- the values that stand for the open requests of these tickets
abbrev pub parked_for : ℕ → List ℕ → List Ticket
parked_for channel open_tickets = map (ticket_at channel) open_tickets

-- the recorder is that of some events of its channel, and the values beside it are those of its open requests
pub record IsChannel (r : Recording) (parked : List Ticket) : Type 0 where
  pub events : List Event
  pub recorded : IsRecorded r events
  pub each : parked ≡ parked_for r.room.channel (tickets r.room)
  pub distinct : AreDistinct (tickets r.room)

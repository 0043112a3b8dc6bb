-- What is kept of a script's channels in place of all their events.
use Rattle.std.specs.Prelude.{◌≡◌, ℕ, ◌+◌, ◌==◌, List, [], ◌∷◌, ◌++◌, Bool, Option, Some, None, filter, map, slice_get}
use Rattle.ll_room.specs.RoomValue.{AreDistinct, RoomValue, room_value, tickets}
use Rattle.ll_verdict.specs.State.{state_of}
use Rattle.ll_script_rooms.specs.declared.wait.Wait.{Wait}
use Rattle.ll_script_rooms.specs.World.{Channel, World, event_count}
use Rattle.ll_script_rooms.specs.declared.answer.ActAnswer.{ActAnswer}

pub record Kept : Type 0 where
  -- the number of a room is its place in this list
  pub rooms : List RoomValue
  -- the requests that wait, in order of asking
  pub waits : List Wait
  -- the number of events that lines caused
  pub events : ℕ

-- the room of `channel` at `place`
abbrev pub home_at : ℕ → Channel → RoomValue
home_at place channel = room_value place channel.settings (state_of channel.settings channel.events)

-- the rooms of these channels; the first is at `place`
abbrev pub room_values_from : ℕ → List Channel → List RoomValue
room_values_from place [] = []
room_values_from place (channel ∷ channels) = home_at place channel ∷ room_values_from (place + 1) channels

-- what is kept of a world
abbrev pub kept_world : World → Kept
kept_world w = record { rooms = room_values_from 0 w.channels; waits = w.waits; events = event_count w }

-- the answer to an act as a list, empty if there is none
abbrev pub answers_of : Option ActAnswer → List ActAnswer
answers_of None = []
answers_of (Some answer) = answer ∷ []

-- an act leads from the world `old` to the world `new`, of which `kept` is kept, with this answer
pub record Leads (kept : Kept) (answer : Option ActAnswer) (old new : World) : Type 0 where
  pub stands : kept ≡ kept_world new
  pub answers : new.answers ≡ old.answers ++ answers_of answer

-- whether request `x` waits in the channel at `place`
abbrev pub is_in : ℕ → Wait → Bool
is_in place x = x.place == place

abbrev pub ticket_of : Wait → ℕ
ticket_of x = x.ticket

-- the tickets of the requests that wait in the channel at `place`, in order of asking
abbrev pub tickets_at : ℕ → List Wait → List ℕ
tickets_at place waits = map ticket_of (filter (is_in place) waits)

-- the tickets of the open requests of a room; none without a room
abbrev pub open_in : Option RoomValue → List ℕ
open_in None = []
open_in (Some h) = tickets h

-- for private contracts: each room stands for the events of a channel, its number is its place, and its open requests are those of
-- `waits` at this place, in the same order and with distinct tickets
pub record AreTied (rooms : List RoomValue) (waits : List Wait) : Type 0 where
  pub channels : List Channel
  pub rooms_are : rooms ≡ room_values_from 0 channels
  pub opened : (place : ℕ) → tickets_at place waits ≡ open_in (slice_get rooms place)
  pub distinct : (place : ℕ) → AreDistinct (tickets_at place waits)

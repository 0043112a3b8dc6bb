-- The list of requests that wait, in order of asking: finding one, and removing it.
use Rattle.std.specs.Prelude.{ℕ, ◌==◌, ◌&&◌, Bool, false, List, Option, find}
use Rattle.std.specs.Set.{remove_key}
use Rattle.ll_room.specs.Ticket.{Ticket}
use Rattle.ll_script_rooms.specs.declared.owner.Owner.{Owner}
use Rattle.ll_script_rooms.specs.declared.owner.Owner.TheVariants.{Get, Connection}
use Rattle.ll_script_rooms.specs.declared.wait.Wait.{Wait}

-- whether request `x` waits at `place` under `ticket`
abbrev pub is_under : ℕ → ℕ → Wait → Bool
is_under place ticket x = x.place == place && x.ticket == ticket

abbrev pub is_same : Owner → Owner → Bool
is_same (Get a) (Get b) = a == b
is_same (Connection a) (Connection b) = a == b
is_same other owner = false

-- whether the reply of request `x` is for `owner`
abbrev pub is_of : Owner → Wait → Bool
is_of owner x = is_same x.owner owner

-- the value that stands for request `x`: the number of a room is its place
abbrev pub parked_of : Wait → Ticket
parked_of x = record { channel = x.place; ticket = x.ticket }

-- the request that waits at `place` under `ticket`
abbrev pub under : ℕ → ℕ → List Wait → Option Wait
under place ticket waits = find (is_under place ticket) waits

-- the first request whose reply is for `owner`
abbrev pub wait_of : Owner → List Wait → Option Wait
wait_of owner waits = find (is_of owner) waits

-- the list without the request that waits at `place` under `ticket`
abbrev pub without : ℕ → ℕ → List Wait → List Wait
without place ticket waits = remove_key (is_under place ticket) waits

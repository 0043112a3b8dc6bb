-- Values on a shelf, each under a number of its own, in the order in which they were put there.
use Rattle.std.specs.Prelude.{ℕ, ◌==◌, List, Option}
use Rattle.std.specs.Map.{lookup, remove_entry}
use Rattle.ll_room.specs.Ticket.{Ticket}

-- the value with number `k`
abbrev pub found : ℕ → List (ℕ × Ticket) → Option Ticket
found k shelf = lookup (λ n. n == k) shelf

-- the shelf without the value with number `k`
abbrev pub taken_off : ℕ → List (ℕ × Ticket) → List (ℕ × Ticket)
taken_off k shelf = remove_entry (λ n. n == k) shelf

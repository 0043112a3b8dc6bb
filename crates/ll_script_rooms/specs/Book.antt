-- For private contracts: the held requests by their numbers, and the two orders in which they stand.
use Rattle.std.specs.Prelude.{ℕ, ◌+◌, Bool, true, List}
use Rattle.std.specs.Map.{values_of}
use Rattle.ll_book.specs.Numbers.{AreKeyed, AreUnder}
use Rattle.ll_book.specs.Places.{IsOrder}
use Rattle.ll_book.specs.declared.place.OrderKey.{OrderKey}
use Rattle.ll_script_rooms.specs.Spots.{spot}
use Rattle.ll_script_rooms.specs.declared.owner.Owner.{Owner}
use Rattle.ll_script_rooms.specs.declared.owner.Owner.TheVariants.{Get, Connection}
use Rattle.ll_script_rooms.specs.declared.held_request.HeldRequest.{HeldRequest}
use Rattle.ll_script_rooms.specs.declared.wait.Wait.{Wait}

-- the two parts of an owner's key: its kind, and its number
abbrev pub kind_of : Owner → ℕ
kind_of (Get id) = 0
kind_of (Connection id) = 1

abbrev pub id_of : Owner → ℕ
id_of (Get id) = id
id_of (Connection id) = id

abbrev pub number_of : HeldRequest → ℕ
number_of r = r.number

abbrev pub wait_in : HeldRequest → Wait
wait_in r = record { owner = r.owner; place = r.parked.channel; ticket = r.parked.ticket }

-- the place of a row in each order
abbrev pub by_ticket : HeldRequest → OrderKey
by_ticket r = spot r.parked.channel r.parked.ticket r.number

abbrev pub by_owner : HeldRequest → OrderKey
by_owner r = spot (kind_of r.owner) (id_of r.owner) r.number

-- every row stands in both orders
abbrev pub every : HeldRequest → Bool
every r = true

-- each row is under its number, no number is above `last`, and the orders are those of the rows
pub record IsBook (rows : List (ℕ × HeldRequest)) (tickets owners : List OrderKey) (last : ℕ) : Type 0 where
  pub keyed : AreKeyed number_of 0 rows
  pub given : AreUnder number_of (last + 1) (values_of rows)
  pub tickets_told : IsOrder number_of every by_ticket (values_of rows) tickets
  pub owners_told : IsOrder number_of every by_owner (values_of rows) owners

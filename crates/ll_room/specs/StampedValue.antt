-- A value with the room and the event that it comes from.
use Rattle.std.specs.Prelude.{ℕ}
use Rattle.ll_room.specs.declared.stamped.Stamp.{Stamp}

pub record StampedValue (T : Type 0) : Type 0 where
  -- the number of the room
  pub room : ℕ
  pub stamp : Stamp
  pub value : T

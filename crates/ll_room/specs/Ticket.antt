-- The value of a held request.
use Rattle.std.specs.Prelude.{ℕ}

pub record Ticket : Type 0 where
  -- the number of its room
  pub channel : ℕ
  -- its number among the requests of the channel, from 1
  pub ticket : ℕ

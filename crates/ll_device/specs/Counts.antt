-- The value of two counts: how often two things happened.
use Rattle.std.specs.Prelude.{ℕ}

pub record Counts : Type 0 where
  pub first : ℕ
  pub second : ℕ

-- The value of a claim, which stands for a request that a hub holds.
use Rattle.std.specs.Prelude.{ℕ}
use Rattle.ll_verdict.specs.declared.entry.Entry.{Entry}

pub record ClaimValue : Type 0 where
  -- the place of its channel
  pub channel : ℕ
  -- the request: its number, what it asks for, how many items there were when it was made, and its deadline
  pub entry : Entry

-- The names of a hub's history, and of the ledgers in which it counts published items and requests.
use Rattle.std.specs.Prelude.{ℕ}
use Rattle.logbook.specs.Pages.{Book}

pub record Names : Type 0 where
  -- of the history
  pub book : Book
  -- of the channels' publishes
  pub channel_publishes : ℕ
  -- of the channels' asks
  pub channel_asks : ℕ
  -- of the passes' publishes
  pub pass_publishes : ℕ
  -- of the passes' asks
  pub pass_asks : ℕ

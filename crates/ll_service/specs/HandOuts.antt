-- A record that was handed out to a service's sink.
use Rattle.std.specs.Prelude.{ℕ, List, Option}
use Rattle.ll_history.specs.declared.deed.Logged.{Logged}
use Rattle.ll_hub.specs.Calls.{IsHandedTo}
use Rattle.ll_record.specs.Taken.{TakenChunk}
use Rattle.ll_settings.specs.Settings.{Configuration}

-- The record of the channel at `place` was handed out, after all that its caller had seen: a handle of the same place as `sink`, which had taken
-- the same before, has taken it once, and nothing else.
pub record IsHandedOver {K : Type 0} (taken : K → Option (List TakenChunk)) (hub : List Configuration) (place : ℕ) (before after : List Logged) (sink : K) : Type 0 where
  pub handle : K
  pub handed : IsHandedTo hub place before after (taken sink) (taken handle)

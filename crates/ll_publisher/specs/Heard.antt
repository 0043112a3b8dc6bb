-- What a publisher's pass has seen and counted once its lines were answered.
use Rattle.std.specs.Prelude.{◌≡◌, ℕ, ◌+◌, List, Option, Some, None, Result, Ok, Err}
use mathlib.Core.List.{IsPrefix}
use Rattle.ll_history.specs.declared.deed.Logged.{Logged}
use Rattle.ll_hub.specs.Passes.{PassValue, noted}
use Rattle.ll_settings.specs.Channels.{channel_of_name}
use Rattle.ll_settings.specs.Settings.{Configuration}
use Rattle.ll_publish.specs.Line as says
use Rattle.ll_publish.specs.declared.refusal.Refusal.{Refusal}
use Rattle.ll_publish.specs.declared.success.Success.{Success}
use Rattle.ll_publish.specs.declared.success.Success.TheVariants.{Accepted, NotKept, Standing, Opened}
use Rattle.ll_room.specs.StampedValue.{StampedValue}

-- the pass after this answer to a line for the channel at `place`, once the history was seen up to `history`: an item that was accepted is seen and
-- counted once, kept or not; of a place the number of items is seen
abbrev pub heard_at : ℕ → Result Success Refusal → List Logged → PassValue → PassValue
heard_at place (Ok (Accepted count)) history pass = record pass { seen = noted pass.seen place count; publishes = pass.publishes + 1; history = history }
heard_at place (Ok (NotKept count)) history pass = record pass { seen = noted pass.seen place count; publishes = pass.publishes + 1; history = history }
heard_at place (Ok (Standing s)) history pass = record pass { seen = noted pass.seen place s.count; history = history }
heard_at place (Ok Opened) history pass = record pass { history = history }
heard_at place (Err reason) history pass = record pass { history = history }

-- the same, in the channel that was found
abbrev pub heard_in : Option (ℕ × Configuration) → Result Success Refusal → List Logged → PassValue → PassValue
heard_in None reply history pass = record pass { history = history }
heard_in (Some found) reply history pass = heard_at found.0 reply history pass

-- the pass after this answer to a line: its item or its question, for the channel of its name
abbrev pub heard : List Configuration → says.Line → Result Success Refusal → List Logged → PassValue → PassValue
heard channels (says.Item name text media) reply history pass = heard_in (channel_of_name channels 0 name) reply history pass
heard channels (says.At name rendition) reply history pass = heard_in (channel_of_name channels 0 name) reply history pass
heard channels says.Bad reply history pass = record pass { history = history }
heard channels says.TooLong reply history pass = record pass { history = history }
heard channels says.MediaTooLong reply history pass = record pass { history = history }

-- the answer to an item, without its stamp
abbrev pub unstamped : Result (StampedValue ℕ) Refusal → Result Success Refusal
unstamped (Ok mark) = Ok (Accepted mark.value)
unstamped (Err reason) = Err reason

-- the pass after this answer to an item for the channel at `place`, which has then seen no less of the history
pub record IsHeardAt (place : ℕ) (answer : Result (StampedValue ℕ) Refusal) (before after : PassValue) : Type 0 where
  pub passed : after ≡ heard_at place (unstamped answer) after.history before
  pub grows : IsPrefix before.history after.history

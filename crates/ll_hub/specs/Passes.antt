-- What a caller has seen and counted.
use Rattle.std.specs.Prelude.{ℕ, List, [], Option, Some, None, max, replicate, slice_get, slice_set}
use Rattle.ll_history.specs.declared.deed.Logged.{Logged}
use Rattle.ll_verdict.specs.declared.reply.Reply.{Reply}
use Rattle.ll_verdict.specs.declared.reply.Reply.TheVariants.{Text, Media, NotFound, TooFar, Busy, Timeout}

pub record PassValue : Type 0 where
  -- of each channel, how many items it has accepted at least
  pub seen : List ℕ
  -- how many items the caller has published that were accepted
  pub publishes : ℕ
  -- how many requests the caller has made
  pub asks : ℕ
  -- the hub's history as far as the caller has seen it
  pub history : List Logged

-- a pass for `channels` channels that has seen and counted nothing
abbrev pub new_pass : ℕ → PassValue
new_pass channels = record { seen = replicate channels 0; publishes = 0; asks = 0; history = [] }

abbrev pub noted_by : Option ℕ → List ℕ → ℕ → ℕ → List ℕ
noted_by None seen channel count = seen
noted_by (Some before) seen channel count = slice_set seen channel (max before count)

-- the caller has seen `count` items of this channel too
abbrev pub noted : List ℕ → ℕ → ℕ → List ℕ
noted seen channel count = noted_by (slice_get seen channel) seen channel count

-- a text and media say how many items there were; no other reply does
abbrev pub noted_reply : List ℕ → ℕ → Reply → List ℕ
noted_reply seen channel (Text page) = noted seen channel page.seen.count
noted_reply seen channel (Media piece) = noted seen channel piece.number
noted_reply seen channel NotFound = seen
noted_reply seen channel TooFar = seen
noted_reply seen channel Busy = seen
noted_reply seen channel Timeout = seen

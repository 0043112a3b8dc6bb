-- For private contracts: the time while an entry is looked for.
use Rattle.std.specs.Prelude.{ℕ, zero, suc, max, Option, Some, None}
use Rattle.ll_entry_check.specs.declared.full.FullEntry.{FullEntry}
use Rattle.ll_entry_check.specs.declared.full.FullEntry.TheVariants as full
use Rattle.ll_check.specs.declared.told.Told.{Told}
use Rattle.ll_check.specs.declared.told.Told.TheVariants as told
use Rattle.ll_entry.specs.Chain.{Chain}
use Rattle.ll_verdict.specs.Events.{time}

-- the time of the channel of the last chain so far
abbrev pub time_of : Option Chain → ℕ
time_of None = 0
time_of (Some ch) = time ch.events

-- the time of a chain's channel after an entry, from that before it
abbrev pub time_after_entry : ℕ → FullEntry → ℕ
time_after_entry ms full.Publish = ms
time_after_entry ms (full.Ask ask want reply) = ms
time_after_entry ms (full.Clock reading) = max ms reading
time_after_entry ms (full.Collect ask reply) = ms
time_after_entry ms (full.Close ask) = ms

-- the same after lines that say this: a chunk with no entries before it begins a chain
abbrev pub time_told : ℕ → Told → ℕ
time_told ms (told.Begun settings zero) = 0
time_told ms (told.Begun settings (suc at)) = ms
time_told ms (told.Entry version line entry) = time_after_entry ms entry
time_told ms told.Ended = ms

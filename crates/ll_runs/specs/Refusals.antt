-- Which fragments of a governing track are refused, and why.
use Rattle.std.specs.Prelude.{ℕ, ◌+◌, ◌&&◌, ◌||◌, Bool, true, false, nat_lt, not, if◌then◌else◌, Option, Some, None}
use Rattle.ll_mp4.specs.declared.fault.StreamFault.{StreamFault}
use Rattle.ll_mp4.specs.declared.fault.StreamFault.TheVariants.{TooLarge, TooLong}
use Rattle.ll_runs.specs.Prompt.{is_past, part_lasts}
use Rattle.ll_runs.specs.Times.{is_counted, micros, size_limit}
use Rattle.ll_runs.specs.declared.lengths.Lengths.{Lengths}
use Rattle.ll_runs.specs.declared.times.Times.{Times}

-- the fault of a fragment that ends at tick `end` and has `size` bytes with those that go with it
abbrev pub refusal_of : ℕ → ℕ → ℕ → Option StreamFault
refusal_of scale end size = if not (is_counted scale end) then Some TooLong else if nat_lt size_limit size then Some TooLarge else None

-- whether a fragment begins a run and is longer than a part is allowed to be; inside a run, a longer one
-- leaves a gap after it
abbrev pub is_long : Lengths → ℕ → Bool → ℕ → Bool
is_long lengths scale begins ticks = begins && nat_lt lengths.part (micros scale ticks)

abbrev pub refusal_by : Bool → Option StreamFault → Option StreamFault
refusal_by true other = Some TooLong
refusal_by false other = other

-- the fault of a fragment that is a part of `size` bytes
abbrev pub refusal_at : Lengths → ℕ → Times → ℕ → ℕ → Option StreamFault
refusal_at lengths scale t ticks size =
    if not (is_counted scale (t.position + ticks)) || is_past lengths t (part_lasts scale t ticks) then Some TooLong else if nat_lt size_limit size then Some TooLarge else None

-- Where the parts of a stream begin and end if each fragment is a part and doesn't wait for the next one.
use Rattle.std.specs.Prelude.{ℕ, ◌+◌, ◌-◌, ◌*◌, ◌^◌, ◌||◌, Bool, true, nat_lt, nat_le, if◌then◌else◌, min, Option}
use Rattle.std.specs.Option.{unwrap_or}
use Rattle.ll_runs.specs.Times.{at_tick, duration_to, goes_back, last_micro, times_from}
use Rattle.ll_runs.specs.declared.lengths.Lengths.{Lengths}
use Rattle.ll_runs.specs.declared.times.Next.{Next}
use Rattle.ll_runs.specs.declared.times.Next.TheVariants.{Over, Back, At}
use Rattle.ll_runs.specs.declared.times.Times.{Times}

-- ---- before a fragment

-- whether a time leaves a gap: it is later than a place by more than a part
abbrev pub leaves_gap : Lengths → ℕ → ℕ → ℕ → Bool
leaves_gap lengths scale place time = nat_lt (lengths.part * scale) ((time - place) * 1000000)

-- a fragment begins where the samples before it end: its decode time says only whether times go back or there is a gap
abbrev pub comes_at : Lengths → ℕ → ℕ → ℕ → Next
comes_at lengths scale place time = if goes_back lengths scale place time then Back time else At (if leaves_gap lengths scale place time then time else place)

abbrev pub next_after : Lengths → ℕ → Times → Option ℕ → Next
next_after lengths scale t time = comes_at lengths scale t.position (unwrap_or time t.position)

-- whether the run ends before `next`
abbrev pub ends_before : Times → Next → Bool
ends_before t Over = true
ends_before t (Back tick) = true
ends_before t (At tick) = nat_lt t.position tick

-- a segment is open if its last part didn't finish it
abbrev pub is_open : Times → Bool
is_open t = nat_lt t.segment t.start

-- the end of the rendition after the last part, as a number of 64 bits
abbrev pub end_of_parts : Times → ℕ
end_of_parts t = min (t.end + t.start) (2 ^ 64 - 1)

-- the times of the run that `next` belongs to
abbrev pub times_at : Times → Next → Times
times_at t Over = t
times_at t (Back tick) = times_from tick (end_of_parts t) tick
times_at t (At tick) = if nat_lt t.position tick then times_from tick (end_of_parts t) t.origin else t

-- ---- its part

-- its duration if its samples last `ticks`: up to the microsecond at which they end, and at least one
abbrev pub part_lasts : ℕ → Times → ℕ → ℕ
part_lasts scale t ticks = duration_to t (at_tick scale t (t.position + ticks))

-- the microsecond of the run at which it ends
abbrev pub part_end : Times → ℕ → ℕ
part_end t lasts = t.start + lasts

-- whether a segment is full: it has reached its length, or one more part could make it too long
abbrev pub is_full : Lengths → ℕ → Bool
is_full lengths so_far = nat_le lengths.segment so_far || nat_lt lengths.most (so_far + lengths.part)

abbrev pub finishes : Lengths → Times → ℕ → Bool
finishes lengths t lasts = is_full lengths (part_end t lasts - t.segment)

-- whether a part is too long, or ends past what can be counted
abbrev pub is_past : Lengths → Times → ℕ → Bool
is_past lengths t lasts = nat_lt lengths.part lasts || nat_lt last_micro (part_end t lasts)

-- the times after a part of `ticks` that ends at microsecond `end` and finishes its segment or not
abbrev pub times_past : Times → ℕ → ℕ → Bool → Times
times_past t ticks end finishes = record t { position = t.position + ticks; start = end; segment = if finishes then end else t.segment }

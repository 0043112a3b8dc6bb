-- Where the fragments of a governing track begin and end, and which of them go into one part, once it is known what comes after each.
use Rattle.std.specs.Prelude.{ℕ, ◌+◌, ◌-◌, ◌*◌, ◌/◌, ◌^◌, ◌==◌, ◌&&◌, ◌||◌, Bool, true, false, nat_lt, nat_le, if◌then◌else◌, Option, Some, None, min, max}
use Rattle.std.specs.Option.{unwrap_or}
use Rattle.ll_runs.specs.declared.lengths.Lengths.{Lengths}
use Rattle.ll_runs.specs.declared.times.Cut.{Cut}
use Rattle.ll_runs.specs.declared.times.Cut.TheVariants as cut
use Rattle.ll_mp4.specs.declared.timing.DecodeTime.{DecodeTime}
use Rattle.ll_runs.specs.declared.times.Judged.{Judged}
use Rattle.ll_runs.specs.declared.times.Next.{Next}
use Rattle.ll_runs.specs.declared.times.Next.TheVariants.{Over, Back, At}
use Rattle.ll_runs.specs.declared.times.Times.{Times}

-- the most bytes of a part
abbrev pub size_limit : ℕ
size_limit = 1048576

-- the last microsecond of the year 9999, counted from 1970-01-01T00:00:00Z: no rendition goes further
abbrev pub last_micro : ℕ
last_micro = 253402300799999999

-- ---- where fragments begin and end

-- ticks in whole microseconds
abbrev pub micros : ℕ → ℕ → ℕ
micros scale ticks = ticks * 1000000 / scale

-- a tick in whole microseconds of the run
abbrev pub at_tick : ℕ → Times → ℕ → ℕ
at_tick scale t tick = micros scale (tick - t.base)

-- whether a tick can be counted: it has 64 bits, and in microseconds is at most the last one
abbrev pub is_counted : ℕ → ℕ → Bool
is_counted scale tick = nat_lt tick (2 ^ 64) && nat_le (micros scale tick) last_micro

-- the tick at which a fragment with this decode time begins; without one, where the samples of the one before it end
abbrev pub time_of : Times → ℕ → Option ℕ → ℕ
time_of t ticks time = unwrap_or time (t.position + ticks)

-- whether a time goes back: it is earlier than the one before it by more than a part; one that is earlier by no more counts as that one
abbrev pub goes_back : Lengths → ℕ → ℕ → ℕ → Bool
goes_back lengths scale position time = nat_lt (lengths.part * scale) ((position - time) * 1000000)

abbrev pub next_at : Lengths → ℕ → ℕ → ℕ → Next
next_at lengths scale position time = if goes_back lengths scale position time then Back time else At (max position time)

-- the duration of the samples of a fragment at the run's position, in microseconds
abbrev pub by_samples : ℕ → Times → ℕ → ℕ
by_samples scale t ticks = at_tick scale t (t.position + ticks) - at_tick scale t t.position

-- its stated duration: up to the next one, or, if none continues it, that of its samples
abbrev pub said_to : ℕ → Times → ℕ → Next → ℕ
said_to scale t ticks Over = by_samples scale t ticks
said_to scale t ticks (Back tick) = by_samples scale t ticks
said_to scale t ticks (At tick) = at_tick scale t tick - at_tick scale t t.position

-- whether the run ends with it: nothing comes after it, times go back, or there is a gap, since its stated duration is longer than a part
abbrev pub ends_run : Lengths → ℕ → Next → Bool
ends_run lengths said Over = true
ends_run lengths said (Back tick) = true
ends_run lengths said (At tick) = nat_lt lengths.part said

abbrev pub or_part : Lengths → ℕ → ℕ
or_part lengths before = if before == 0 then lengths.part else min before lengths.part

-- its duration: the stated one, or, if that is longer than a part, the least of a part, its samples, and the fragment before it if there is one
abbrev pub lasts : Lengths → ℕ → Times → ℕ → ℕ → ℕ
lasts lengths scale t ticks said = if nat_le said lengths.part then said else min (or_part lengths t.before) (by_samples scale t ticks)

-- ---- what ends before a fragment

-- whether a segment ends before a fragment that begins `so_far` microseconds after the segment does, and lasts `lasts`
abbrev pub ends_segment : Lengths → ℕ → ℕ → Bool → Bool
ends_segment lengths so_far lasts sync = nat_le lengths.segment so_far && sync || nat_lt lengths.most (so_far + lasts)

abbrev pub cut_by : Bool → Bool → Bool → Cut
cut_by false segment part = cut.Joins
cut_by true true part = cut.Segment
cut_by true false true = cut.Part
cut_by true false false = cut.Joins

-- whether the part under way can end: it has bytes, and lasts at least a microsecond or would have too many bytes
abbrev pub may_end : Times → ℕ → ℕ → ℕ → Bool
may_end t size begin more = nat_lt 0 size && (nat_lt t.start begin || nat_lt size_limit (size + more))

-- what ends before a fragment that begins at microsecond `begin` of the run, lasts `lasts`, and has `more` bytes with those that go with it; the part under way has `size` bytes
abbrev pub cut_before : Lengths → Times → ℕ → ℕ → ℕ → Bool → ℕ → Cut
cut_before lengths t size begin lasts sync more =
    cut_by (may_end t size begin more)
    (ends_segment lengths (begin - t.segment) lasts sync)
    (nat_lt lengths.part (begin + lasts - t.start) || nat_lt size_limit (size + more))

-- ---- its times, and the cut before it

abbrev pub judged_by : Lengths → ℕ → Times → ℕ → ℕ → Bool → ℕ → Next → (begin said lasts : ℕ) → Judged
judged_by lengths scale t size ticks sync more next begin said lasts =
    record { begin = begin; lasts = lasts; end = min (begin + lasts) (2 ^ 64 - 1); cut = cut_before lengths t size begin lasts sync more; ends = ends_run lengths said next }

abbrev pub judged_said : Lengths → ℕ → Times → ℕ → ℕ → Bool → ℕ → Next → ℕ → Judged
judged_said lengths scale t size ticks sync more next said =
    judged_by lengths scale t size ticks sync more next (at_tick scale t t.position) said (lasts lengths scale t ticks said)

-- the part under way has `size` bytes, the fragment with what goes with it `more`
abbrev pub judged : Lengths → ℕ → Times → ℕ → ℕ → Bool → ℕ → Next → Judged
judged lengths scale t size ticks sync more next = judged_said lengths scale t size ticks sync more next (said_to scale t ticks next)

-- the tick at which the next fragment begins
abbrev pub place_of : Next → ℕ
place_of Over = 0
place_of (Back tick) = tick
place_of (At tick) = tick

-- ---- decode times between two fragments

abbrev pub apart : ℕ → ℕ → ℕ
apart a b = (a - b) + (b - a)

-- whether the decode time is nearer to the second tick than to the first
abbrev pub is_nearer : ℕ → ℕ → ℕ → Option DecodeTime → Bool
is_nearer scale first second None = false
is_nearer scale first second (Some m) = nat_lt (apart (m.time * scale) (second * m.scale)) (apart (m.time * scale) (first * m.scale))

-- ---- the times after it

-- the times of a run that begins at `tick`
abbrev pub times_from : ℕ → ℕ → ℕ → Times
times_from tick end origin = record { base = tick; position = tick; start = 0; independent = false; segment = 0; before = 0; end = end; origin = origin }

-- the times with a fragment added that begins at microsecond `begin` and lasts `lasts`
abbrev pub joined_to : Cut → Times → ℕ → ℕ → ℕ → Bool → Times
joined_to cut.Joins t size begin lasts sync = record t { independent = if size == 0 then sync else t.independent; before = lasts }
joined_to cut.Part t size begin lasts sync = record t { start = begin; independent = sync; before = lasts }
joined_to cut.Segment t size begin lasts sync = record t { start = begin; independent = sync; segment = begin; before = lasts }

-- the duration of the part under way if it ends at this microsecond: at least one
abbrev pub duration_to : Times → ℕ → ℕ
duration_to t end = max 1 (end - t.start)

-- the end of the rendition then, as a number of 64 bits
abbrev pub rendition_end : Times → ℕ → ℕ
rendition_end t end = min (t.end + t.start + duration_to t end) (2 ^ 64 - 1)

-- ticks in whole microseconds, rounded up
abbrev pub micros_up : ℕ → ℕ → ℕ
micros_up scale ticks = if micros scale ticks * scale == ticks * 1000000 then micros scale ticks else micros scale ticks + 1

-- the microseconds from the origin of the program's time to a tick, rounded up
abbrev pub since_origin : ℕ → Times → ℕ → ℕ
since_origin scale t tick = micros_up scale (tick - t.origin)

-- the times after a fragment that ends at microsecond `end` of the run
abbrev pub times_after : Times → ℕ → Bool → Next → Times
times_after t end ends Over = t
times_after t end ends (Back tick) = times_from tick (rendition_end t end) tick
times_after t end false (At tick) = record t { position = tick }
times_after t end true (At tick) = times_from tick (rendition_end t end) t.origin

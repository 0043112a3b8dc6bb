-- How a time is moved, and the field of a box that has it.
use Rattle.std.specs.Prelude.{ℕ, ◌+◌, ◌-◌, ◌*◌, ◌/◌, ◌^◌, ◌==◌, ◌||◌, Bool, true, false, not, List, ◌∷◌, ◌++◌, take, drop, length, nat_lt, min, slice_index, if◌then◌else◌, Option, Some, None}
use Rattle.byteorder.specs.Endian.{big_bytes, big_number}
use Rattle.ll_shift.specs.Pieces.{Box, grown, whole}
use Rattle.ll_shift.specs.declared.field.Field.{Field}
use Rattle.ll_shift.specs.declared.field.Target.{Target}
use Rattle.ll_shift.specs.declared.shift.Shift.{Shift}

-- ---- times

-- the beginning of the run in ticks of a track with `scale` in a second, cut to a whole number; 0 if the governing track has none
abbrev pub base_in : Shift → ℕ → ℕ
base_in shift scale = if shift.scale == 0 then 0 else shift.base * scale / shift.scale

-- A time of a track with `scale` ticks in a second: as much later than the rendition's end, cut to a whole tick, as it was later than the
-- beginning of the run; 0 if that is negative, and at most 2^64 - 1.
abbrev pub moved_time : Shift → ℕ → ℕ → ℕ
moved_time shift scale time = min (time + shift.end * scale / 1000000 - base_in shift scale) (2 ^ 64 - 1)

-- ---- the field in which a box has a time

-- the field has 32 bits in version 0, and 64 bits in version 1
abbrev pub field_by : ℕ → ℕ → List ℕ → Option Field
field_by version place content =
    if version == 0 then Some (record { is_long = false; time = big_number 4 (drop place content) })
    else if version == 1 then (if nat_lt (length content) (place + 8) then None else Some (record { is_long = true; time = big_number 8 (drop place content) }))
    else None

-- the field at a place of a content that begins with its version, or none if the content is too short for it or of another version
abbrev pub field_at : ℕ → List ℕ → Option Field
field_at place content = if nat_lt (length content) (place + 4) then None else field_by (slice_index content 0) place content

-- ---- the field that is written in its place

-- a field of 32 bits grows to 64 if its time needs them
abbrev pub target : ℕ → Bool → Target
target time was_long =
    record { was_long = was_long; is_long = was_long || not (nat_lt time (2 ^ 32)); time = time }

-- the moved time at a place of a content, of a track with `scale` ticks in a second
abbrev pub target_by : Shift → ℕ → Option Field → Option Target
target_by shift scale None = None
target_by shift scale (Some field) = Some (target (moved_time shift scale field.time) field.is_long)

abbrev pub target_at : Shift → Option ℕ → ℕ → List ℕ → Option Target
target_at shift None place content = None
target_at shift (Some scale) place content = target_by shift scale (field_at place content)

-- the number of bytes by which the field grows
abbrev pub growth : Option Target → ℕ
growth None = 0
growth (Some t) = if t.is_long then (if t.was_long then 0 else 4) else 0

-- ---- boxes with a time

-- the length of a field, in bytes
abbrev pub width : Bool → ℕ
width is_long = if is_long then 8 else 4

-- a content with its new version in the first byte, and the moved time at its place
abbrev pub with_target : ℕ → Target → List ℕ → List ℕ
with_target place t content =
    (if t.is_long then 1 else 0) ∷ take (place - 1) (drop 1 content) ++ (big_bytes (width t.is_long) t.time ++ drop (place + width t.was_long) content)

abbrev pub timed_by : ℕ → Option Target → Box → List ℕ
timed_by place None b = whole b
timed_by place (Some t) b = grown b (growth (Some t)) ++ with_target place t b.content

-- a box with the time at a place of its content moved, or unchanged if it has none or the track isn't known
abbrev pub timed : Shift → Option ℕ → ℕ → Box → List ℕ
timed shift scale place b = timed_by place (target_at shift scale place b.content) b

-- What a shift leaves alone: all but the times, and the sizes and offsets that depend on how many bytes they
-- take.
use Rattle.std.specs.Prelude.{◌≡◌, ℕ, ◌+◌, ◌-◌, ◌^◌, ◌<◌, ◌==◌, ◌||◌, List, [], ◌++◌, take, drop, length, slice_index, if◌then◌else◌, Option, Some, None}
use Rattle.byteorder.specs.Endian.{big_bytes}
use Rattle.ll_mp4.specs.declared.kind.Kind.TheVariants.{Moof, Traf, Trun, Tfdt, Sidx, Mfra, Prft, Emsg}
use Rattle.ll_mp4.specs.declared.track.TimeScale.{TimeScale}
use Rattle.ll_shift.specs.Laws.{AreBytes}
use Rattle.ll_shift.specs.Moved.{has_offset, is, moved}
use Rattle.ll_shift.specs.Pieces.{Box, each}
use Rattle.ll_shift.specs.Times.{field_at, width}
use Rattle.ll_shift.specs.declared.field.Field.{Field}
use Rattle.ll_shift.specs.declared.shift.Shift.{Shift}

-- a content without its version and the time at a place, if it has one
abbrev pub without_field : ℕ → List ℕ → Option Field → List ℕ
without_field place content None = content
without_field place content (Some field) = take (place - 1) (drop 1 content) ++ drop (place + width field.is_long) content

abbrev pub without_time : ℕ → List ℕ → List ℕ
without_time place content = without_field place content (field_at place content)

-- a run without the offset of its data
abbrev pub without_offset : List ℕ → List ℕ
without_offset trun = if has_offset trun then take 8 trun ++ drop 12 trun else trun

-- a box's type with another content and its length
abbrev pub tagged : Box → List ℕ → List ℕ
tagged b content = big_bytes 4 b.kind ++ (big_bytes 8 (length content) ++ content)

abbrev pub plain_in_traf : Box → List ℕ
plain_in_traf b = tagged b (if is Tfdt b then without_time 4 b.content else if is Trun b then without_offset b.content else b.content)

abbrev pub plain_in_moof : Box → List ℕ
plain_in_moof b = tagged b (if is Traf b then each plain_in_traf b.content else b.content)

abbrev pub plain_event : List ℕ → List ℕ
plain_event content = if slice_index content 0 == 1 then without_time 8 content else content

abbrev pub plain_box : Box → List ℕ
plain_box b =
    if is Sidx b || is Mfra b then []
    else tagged b (
    if is Moof b then each plain_in_moof b.content
    else if is Prft b then without_time 16 b.content
    else if is Emsg b then plain_event b.content
    else b.content)

abbrev pub plain : List ℕ → List ℕ
plain bytes = each plain_box bytes

-- Only times change, if the written bytes are less than 4 GiB.
abbrev pub OnlyTimesChange : Type 0
OnlyTimesChange =
    (shift : Shift) (scales : List TimeScale) (bytes : List ℕ) → AreBytes bytes → length (moved shift scales bytes) < 2 ^ 32
    → plain (moved shift scales bytes) ≡ plain bytes

-- The rules that refuse the next item of a rendition.
use Rattle.std.specs.Prelude.{ℕ, ◌+◌, ◌*◌, ◌/◌, ◌||◌, ◌==◌, List, [], ◌∷◌, Bool, true, false, length, nat_lt, Option, Some, None, if◌then◌else◌}
use Rattle.ll_attr.specs.YearEnd.{last_micro}
use Rattle.ll_settings.specs.Settings.{Configuration, number_end}
use Rattle.ll_item.specs.declared.item.Item.{Item}
use Rattle.ll_item.specs.declared.item.Item.TheVariants as item
use Rattle.ll_item.specs.declared.part.Part.{Part}
use Rattle.ll_window.specs.declared.fault.WindowFault.{WindowFault}
use Rattle.ll_window.specs.declared.fault.WindowFault.TheVariants.{Ended, BadDuration, TooLong, OpenSegment, CountEnd, TimeEnd, NoSegment, TimeBack}
use Rattle.ll_window.specs.Compact.{Compact, next_start, compact}
use Rattle.ll_window.specs.Segments.{segments, open_segment, duration, ended}

-- microseconds as the nearest whole seconds, half a second upwards (rule 4)
abbrev pub rounded : ℕ → ℕ
rounded micros = (micros + 500000) / 1000000

-- the rule that refuses a part of `micros` microseconds that begins at time `ends`, in the segment with this number, which lasts `lasts`
-- microseconds without it (rules 2 and 4)
abbrev pub part_refusal : Configuration → ℕ → ℕ → ℕ → ℕ → Option WindowFault
part_refusal c number lasts ends micros =
    if micros == 0 then Some BadDuration
    else if nat_lt c.part_target micros || nat_lt c.target (rounded (lasts + micros)) then Some TooLong
    else if nat_lt number_end number then Some CountEnd
    else if nat_lt last_micro (ends + micros) then Some TimeEnd
    else None

-- the rule that refuses a break's time if the next part begins at `begins` (rule 13)
abbrev pub time_refusal : ℕ → Option ℕ → Option WindowFault
time_refusal begins None = None
time_refusal begins (Some ms) = if nat_lt (ms * 1000) begins then Some TimeBack else if nat_lt last_micro (ms * 1000) then Some TimeEnd else None

-- the rule that refuses a break after these parts of the open segment: there is one (rule 11), or the time of the break is refused
abbrev pub break_refusal : List Part → ℕ → Option ℕ → Option WindowFault
break_refusal [] begins time = time_refusal begins time
break_refusal (p ∷ ps) begins time = Some OpenSegment

-- the rule that refuses a finish after these parts of the open segment: there is none (rule 5)
abbrev pub finish_refusal : List Part → Option WindowFault
finish_refusal [] = Some NoSegment
finish_refusal (p ∷ ps) = None

-- the first rule that refuses an item after these items of its rendition, which has not ended
abbrev pub refusal_before_end : Configuration → List Item → Item → Option WindowFault
refusal_before_end c before (item.Part part) =
    part_refusal c (c.first + length (segments before)) (duration (open_segment before)) (next_start (compact c before)) part.duration
refusal_before_end c before (item.Finish rendition) = finish_refusal (open_segment before)
refusal_before_end c before (item.Break rendition time) = break_refusal (open_segment before) (next_start (compact c before)) time
refusal_before_end c before (item.Init rendition media) = None
refusal_before_end c before (item.End rendition) = None
refusal_before_end c before (item.Range rendition id attributes) = None
refusal_before_end c before (item.Unrange rendition id) = None

-- after the end everything is refused (rule 14)
abbrev pub refusal_by : Bool → Option WindowFault → Option WindowFault
refusal_by true other = Some Ended
refusal_by false other = other

-- the first rule that refuses an item after these items of its rendition
abbrev pub refusal : Configuration → List Item → Item → Option WindowFault
refusal c before item = refusal_by (ended before) (refusal_before_end c before item)

-- the first rule that refuses an item after those of which `k` is kept, if the rendition has not ended
abbrev pub refusal_going_on : Compact → Item → Option WindowFault
refusal_going_on k (item.Part part) = part_refusal k.settings k.next_number (duration k.open_parts) (next_start k) part.duration
refusal_going_on k (item.Finish rendition) = finish_refusal k.open_parts
refusal_going_on k (item.Break rendition time) = break_refusal k.open_parts (next_start k) time
refusal_going_on k (item.Init rendition media) = None
refusal_going_on k (item.End rendition) = None
refusal_going_on k (item.Range rendition id attributes) = None
refusal_going_on k (item.Unrange rendition id) = None

-- the same as `refusal`, from what is kept of the items before
abbrev pub refusal_after : Compact → Item → Option WindowFault
refusal_after k item = refusal_by k.ended (refusal_going_on k item)

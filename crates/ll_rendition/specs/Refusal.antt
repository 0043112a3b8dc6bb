-- The rules that refuse the next item of a rendition, in their order (rule 23).
use Rattle.std.specs.Prelude.{List, Option, Some, None, option_map}
use Rattle.ll_settings.specs.Settings.{Configuration}
use Rattle.ll_item.specs.declared.item.Item.{Item}
use Rattle.ll_window.specs.Refusal as window
use Rattle.ll_window.specs.declared.fault.WindowFault.{WindowFault}
use Rattle.ll_window.specs.declared.fault.WindowFault.TheVariants as push
use Rattle.ll_range.specs.Announced as range
use Rattle.ll_range.specs.declared.ranges.RangeFault.{RangeFault}
use Rattle.ll_range.specs.declared.ranges.RangeFault.TheVariants as range_fault
use Rattle.ll_rendition.specs.declared.fault.PublishFault.{PublishFault}
use Rattle.ll_rendition.specs.declared.fault.PublishFault.TheVariants as fault
use Rattle.ll_rendition.specs.declared.rendition.Rendition.{Rendition}

-- the fault of a window as that of a channel
abbrev pub of_push : WindowFault → PublishFault
of_push push.Ended = fault.Ended
of_push push.BadDuration = fault.BadDuration
of_push push.TooLong = fault.TooLong
of_push push.OpenSegment = fault.OpenSegment
of_push push.NoSegment = fault.NoSegment
of_push push.CountEnd = fault.CountEnd
of_push push.TimeEnd = fault.TimeEnd
of_push push.TimeBack = fault.TimeBack

-- the fault of date ranges as that of a channel
abbrev pub of_range : RangeFault → PublishFault
of_range range_fault.IdTaken = fault.IdTaken
of_range range_fault.BadAttribute = fault.BadAttribute
of_range range_fault.IdUnknown = fault.IdUnknown

abbrev pub first_refusal : Option PublishFault → Option PublishFault → Option PublishFault
first_refusal (Some reason) later = Some reason
first_refusal None later = later

-- the first rule that refuses an item after these items of its rendition: those of the window come first, then those of date ranges
unfoldable pub rendition_refusal : Configuration → List Item → Item → Option PublishFault
rendition_refusal c before item =
    first_refusal (option_map of_push (window.refusal c before item)) (option_map of_range (range.refusal c before item))

-- the same as `rendition_refusal`, from what is kept of the items before
abbrev pub refusal_of : Rendition → Item → Option PublishFault
refusal_of kept item =
    first_refusal (option_map of_push (window.refusal_after kept.window item)) (option_map of_range (range.refusal_after kept.window.end_time kept.ranges item))

-- the same for a rendition that may be missing
abbrev pub refusal_at : Option Rendition → Item → Option PublishFault
refusal_at None item = Some fault.NoRendition
refusal_at (Some kept) item = refusal_of kept item

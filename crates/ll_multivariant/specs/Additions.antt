-- What the items of a channel add to the segments of its renditions.
use Rattle.std.specs.Prelude.{ℕ, List, [], ◌∷◌, ◌++◌, Bool, true, false, length}
use Rattle.ll_item.specs.declared.item.Item.{Item}
use Rattle.ll_item.specs.declared.item.Item.TheVariants as item
use Rattle.ll_item.specs.declared.item.PartItem.{PartItem}
use Rattle.ll_variants.specs.Segments.{no_size}
use Rattle.ll_variants.specs.declared.segments.Addition.{Addition}
use Rattle.ll_verdict.specs.Events.{Event, Publish}

abbrev pub empty_addition : ℕ → Bool → Addition
empty_addition rendition ends = record { rendition = rendition; size = no_size; ends = ends }

abbrev pub part_addition : PartItem → Addition
part_addition part = record { rendition = part.rendition; size = record { bytes = length part.media; duration = part.duration }; ends = part.finish }

-- what an item adds: a part its bytes and its duration; a finish and an end the end of the open segment
abbrev pub addition_of : Item → Addition
addition_of (item.Part part) = part_addition part
addition_of (item.Init rendition media) = empty_addition rendition false
addition_of (item.Finish rendition) = empty_addition rendition true
addition_of (item.Break rendition time) = empty_addition rendition false
addition_of (item.End rendition) = empty_addition rendition true
addition_of (item.Range rendition id attributes) = empty_addition rendition false
addition_of (item.Unrange rendition id) = empty_addition rendition false

-- that of an event, if it is an item
abbrev pub additions_in : Event → List Addition
additions_in (Publish item) = addition_of item ∷ []
additions_in other = []

-- those of all events
abbrev pub additions_of : List Event → List Addition
additions_of [] = []
additions_of (event ∷ more) = additions_in event ++ additions_of more

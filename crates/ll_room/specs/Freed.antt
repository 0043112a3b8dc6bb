-- For private contracts: the releases of an item, and the room after it, by what is kept of its rendition before it.
use Rattle.std.specs.Prelude.{◌≡◌, ◌+◌, List, true, false, Option, Some, None, map, slice_get}
use Rattle.ll_item.specs.Items.{rendition_of}
use Rattle.ll_item.specs.declared.item.Item.{Item}
use Rattle.ll_presentation.specs.PresentationValue.{PresentationValue, moment}
use Rattle.ll_rendition.specs.declared.rendition.Rendition.{Rendition}
use Rattle.ll_verdict.specs.declared.entry.Slot.{Slot}
use Rattle.ll_book.specs.Release.{Supply, given_if, takes}
use Rattle.ll_book.specs.declared.next_part.NextPart.{NextPart}
use Rattle.ll_book.specs.declared.release.Release.{Release}
use Rattle.ll_book.specs.Releases.{first_release, part_of, second_release}
use Rattle.ll_room.specs.RoomValue.{RoomValue, with_presentation}

-- the two releases of an item, by what is kept of its rendition
abbrev pub releases_at : Option Rendition → Item → Option Release × Option Release
releases_at None i = (None, None)
releases_at (Some kept) i = (first_release kept.window i, second_release kept.window i)

-- the part that an item is, if it is one, by what is kept of its rendition
abbrev pub part_at : Option Rendition → Item → Option NextPart
part_at None i = None
part_at (Some kept) i = part_of kept.window i

abbrev pub part_in : RoomValue → Item → Option NextPart
part_in h i = part_at (slice_get h.renditions (rendition_of i)) i

abbrev pub releases : RoomValue → Item → Option Release × Option Release
releases h i = releases_at (slice_get h.renditions (rendition_of i)) i

-- the second of two releases takes no request that the first takes
abbrev pub AreApart : Option Release × Option Release → Type 0
AreApart both = (first second : Release) (s : Slot) → both.0 ≡ Some first → both.1 ≡ Some second → takes first s ≡ true → takes second s ≡ false

-- an open request after a release
abbrev pub freed : Supply → Option Release → Slot → Slot
freed supply None s = s
freed supply (Some which) s = given_if supply (takes which s) s

-- the open requests after two releases
abbrev pub freed_slots : Supply → Option Release × Option Release → List Slot → List Slot
freed_slots supply both slots = map (freed supply both.1) (map (freed supply both.0) slots)

-- what the requests that the item releases get; `p` is what is then kept of the items
abbrev pub new_supply : RoomValue → PresentationValue → Item → Supply
new_supply h p i = record { pages = record { moment = moment p; rendition = rendition_of i }; part = part_in h i }

-- the room with `p` as what is kept of the items, and with these open requests
abbrev pub item_on : PresentationValue → List Slot → RoomValue → RoomValue
item_on p slots h = record (with_presentation h p) { slots = slots; events = h.events + 1 }

-- the room after one more item; `p` is what is then kept of the items
abbrev pub with_item : RoomValue → PresentationValue → Item → RoomValue
with_item h p i = item_on p (freed_slots (new_supply h p i) (releases h i) h.slots) h

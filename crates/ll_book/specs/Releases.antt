-- The releases of an item, by what is kept of its rendition before it; and releases that there may be none of.
use Rattle.std.specs.Prelude.{◌≡◌, ℕ, List, [], ◌∷◌, Bool, true, false, Option, Some, None, length}
use Rattle.std.specs.List.{list_any}
use Rattle.ll_item.specs.declared.item.Item.{Item}
use Rattle.ll_item.specs.declared.item.Item.TheVariants as item
use Rattle.ll_window.specs.Compact.{Compact}
use Rattle.ll_verdict.specs.declared.entry.Slot.{Slot}
use Rattle.ll_book.specs.Release.{AreThose, HoldersValue, Supply, holders_of, released, takes}
use Rattle.ll_book.specs.declared.release.Release.{Release}
use Rattle.ll_book.specs.declared.next_part.NextPart.{NextPart}
use Rattle.ll_book.specs.declared.release.Release.TheVariants as release
use Rattle.ll_item.specs.declared.part.Part.{Part}

-- a finish releases those that await its segment or an earlier one
abbrev pub finish_release : List Part → ℕ → ℕ → Option Release
finish_release [] rendition number = None
finish_release (p ∷ ps) rendition number = Some (release.Segment rendition number)

-- a part releases those that await it or an earlier one, the end all of its rendition
abbrev pub first_release : Compact → Item → Option Release
first_release k (item.Part part) = Some (release.Part part.rendition k.next_number (length k.open_parts))
first_release k (item.Finish rendition) = finish_release k.open_parts rendition k.next_number
first_release k (item.Break rendition time) = None
first_release k (item.Init rendition media) = None
first_release k (item.End rendition) = Some (release.All rendition)
first_release k (item.Range rendition id attributes) = None
first_release k (item.Unrange rendition id) = None

abbrev pub segment_if : Bool → ℕ → ℕ → Option Release
segment_if true rendition number = Some (release.Segment rendition number)
segment_if false rendition number = None

-- a finishing part also releases those that await its segment or an earlier one
abbrev pub second_release : Compact → Item → Option Release
second_release k (item.Part part) = segment_if part.finish part.rendition k.next_number
second_release k (item.Finish rendition) = None
second_release k (item.Break rendition time) = None
second_release k (item.Init rendition media) = None
second_release k (item.End rendition) = None
second_release k (item.Range rendition id attributes) = None
second_release k (item.Unrange rendition id) = None

-- the part that an item is, if it is one, by what is kept before it
abbrev pub part_of : Compact → Item → Option NextPart
part_of k (item.Part part) = Some (record { number = k.next_number; index = length k.open_parts; media = part.media })
part_of k (item.Finish rendition) = None
part_of k (item.Break rendition time) = None
part_of k (item.Init rendition media) = None
part_of k (item.End rendition) = None
part_of k (item.Range rendition id attributes) = None
part_of k (item.Unrange rendition id) = None

-- whether there is a release and it takes any of `slots`
abbrev pub takes_any : Option Release → List Slot → Bool
takes_any None slots = false
takes_any (Some which) slots = list_any (takes which) slots

-- the replies made for a release are those of the requests that it takes; there are none without a release
abbrev pub HasHolders : Supply → Option Release → List Slot → Option HoldersValue → Type 0
HasHolders supply None slots found = found ≡ None
HasHolders supply (Some which) slots None = ⊥
HasHolders supply (Some which) slots (Some held) = held.holders ≡ holders_of supply which slots

-- there is one reply for each request that a release takes, if there is a release
abbrev pub HasThose : Option Release → Option HoldersValue → List Slot → Type 0
HasThose None found slots = Unit
HasThose (Some which) None slots = ⊥
HasThose (Some which) (Some held) slots = AreThose which held.holders slots

-- the open requests after a release with its replies, if there is a release
abbrev pub released_with : Option Release → Option HoldersValue → List Slot → List Slot
released_with None found slots = slots
released_with (Some which) None slots = slots
released_with (Some which) (Some held) slots = released which held.holders slots

-- Why an item isn't kept.
use Rattle.std.specs.Prelude.{◌≡◌, ◌≢◌, ◌⊎◌, ◌≤◌, ◌+◌, ◌^◌, ⊤, ℕ, List, None, Option, Some, length, slice_get}
use Rattle.ll_item.specs.Items.{media_of, rendition_of}
use Rattle.ll_item.specs.Media.{IsNumberAlone}
use Rattle.ll_item.specs.declared.item.Item.{Item}
use Rattle.ll_layout.specs.Held.{LayoutValue, sections_size}
use Rattle.ll_layout.specs.declared.fault.AddFault.{AddFault}
use Rattle.ll_layout.specs.declared.fault.AddFault.TheVariants as added
use Rattle.ll_spool.specs.Failures.{HasRisen}
use Rattle.ll_spool.specs.declared.fault.KeepFault.{KeepFault}
use Rattle.ll_spool.specs.declared.fault.KeepFault.TheVariants.{Earlier, Memory, Lost, Refused}
use Rattle.ll_window.specs.Compact.{compact}
use Rattle.ll_window.specs.Refusal.{refusal}

-- the fault of an item that can't be added to the layout of its rendition
abbrev pub fault_by : AddFault → KeepFault
fault_by added.Memory = Memory
fault_by added.Refused = Refused
fault_by added.TooLarge = Refused

-- the file that the item's bytes go to would have 2^63 bytes or more
abbrev pub IsTooLarge : LayoutValue → Item → Type 0
IsTooLarge l item = (2 ^ 63 ≤ l.end + length (media_of item)) ⊎ (2 ^ 63 ≤ sections_size l.sections + length (media_of item))

-- a rule refuses the item after any items of which the layout's window is kept
abbrev pub IsAgainstRules : LayoutValue → Item → Type 0
IsAgainstRules l item = (items : List Item) → l.window ≡ compact l.window.settings items → refusal l.window.settings items item ≢ None

-- the item can't be kept in a rendition of this layout: only the number of its bytes is known, or a file would be too large, or a rule refuses it
abbrev pub IsRefusedIn : LayoutValue → Item → Type 0
IsRefusedIn l item = IsNumberAlone (media_of item) ⊎ (IsTooLarge l item ⊎ IsAgainstRules l item)

abbrev pub IsRefusedBy : Option LayoutValue → Item → Type 0
IsRefusedBy None item = ⊤
IsRefusedBy (Some l) item = IsRefusedIn l item

-- the item can't be kept in a channel whose renditions have these layouts: it is of none of them, or can't be kept in its own
abbrev pub IsRefused : List LayoutValue → Item → Type 0
IsRefused layouts item = IsRefusedBy (slice_get layouts (rendition_of item)) item

-- A call that met no earlier loss has failed with this fault, while the disk's failed calls were `old` before and `new` after it: out of memory
-- or refused only if no call of the disk failed, and refused only for a reason.
abbrev pub HasFailed : Type 0 → ℕ → ℕ → KeepFault → Type 0
HasFailed reason old new Earlier = ⊥
HasFailed reason old new Memory = new ≡ old
HasFailed reason old new Lost = HasRisen old new
HasFailed reason old new Refused = reason × (new ≡ old)

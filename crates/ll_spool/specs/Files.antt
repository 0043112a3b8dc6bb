-- The files of all renditions of a channel.
use Rattle.std.specs.Prelude.{◌≡◌, ◌≢◌, ◌≤◌, ◌⊎◌, ◌+◌, ⊤, ℕ, List, [], ◌∷◌, ◌++◌, Option, Some, None, length, take}
use Rattle.ll_item.specs.Media.{zeros}
use Rattle.ll_layout.specs.Held.{Each, Holds, IsAt, IsHeld, LayoutValue, other, size, stored}
use Rattle.ll_layout.specs.declared.side.Side.{Side}
use Rattle.ll_layout.specs.declared.stored.Extent.{Extent}
use Rattle.ll_layout.specs.declared.stored.StoredItem.{StoredItem}

-- the bytes of each side of each rendition
abbrev pub Files : Type 0
Files = ℕ → Side → List ℕ

-- all files but that of one side of one rendition are what they were
abbrev pub AreOthersSame : ℕ → Side → Files → Files → Type 0
AreOthersSame rendition side old new = (r : ℕ) (s : Side) → (r ≢ rendition) ⊎ (s ≢ side) → new r s ≡ old r s

-- a file's first `n` bytes, with zeros at the end if it has fewer
abbrev pub cut_to : ℕ → List ℕ → List ℕ
cut_to n file = take n (file ++ zeros n)

-- one file was changed, and no other; of files that aren't known nothing is
abbrev pub IsChanged : ℕ → Side → (List ℕ → List ℕ) → Option Files → Option Files → Type 0
IsChanged rendition side change None new = new ≡ None
IsChanged rendition side change (Some old) None = ⊥
IsChanged rendition side change (Some old) (Some new) = (new rendition side ≡ change (old rendition side)) × AreOthersSame rendition side old new

-- a file has these bytes at this place; of files that aren't known nothing is said
abbrev pub IsReadAt : Option Files → ℕ → Extent → List ℕ → Type 0
IsReadAt None rendition place bytes = ⊤
IsReadAt (Some files) rendition place bytes = IsAt (files rendition place.side) place.offset bytes

-- the files of all renditions from `r` on hold what is kept of them
abbrev pub HoldsFrom : ℕ → Files → (ℕ → List ℕ) → List LayoutValue → Type 0
HoldsFrom r files of [] = ⊤
HoldsFrom r files of (l ∷ more) = Holds (files r) of l × HoldsFrom (r + 1) files of more

-- files that are known hold all bytes that may still be asked for, those that `of` gives for the numbers of the items
abbrev pub AreHeld : (ℕ → List ℕ) → List LayoutValue → Option Files → Type 0
AreHeld of layouts None = ⊤
AreHeld of layouts (Some files) = HoldsFrom 0 files of layouts

-- the files of all renditions from `r` on have the bytes that are kept of them, wherever these stand
abbrev pub HasStoredFrom : ℕ → Files → (ℕ → List ℕ) → List LayoutValue → Type 0
HasStoredFrom r files of [] = ⊤
HasStoredFrom r files of (l ∷ more) = Each (IsHeld (files r) of) (stored l) × HasStoredFrom (r + 1) files of more

-- files that are known have all bytes that may still be asked for, those that `of` gives for the numbers of the items; they may have others
-- after these
abbrev pub AreStored : (ℕ → List ℕ) → List LayoutValue → Option Files → Type 0
AreStored of layouts None = ⊤
AreStored of layouts (Some files) = HasStoredFrom 0 files of layouts

-- the same of one rendition as `AreHeld`
abbrev pub IsHeldIn : ℕ → (ℕ → List ℕ) → LayoutValue → Option Files → Type 0
IsHeldIn rendition of l None = ⊤
IsHeldIn rendition of l (Some files) = Holds (files rendition) of l

-- the files of all other renditions are what they were
abbrev pub AreRestSame : ℕ → Option Files → Option Files → Type 0
AreRestSame rendition None new = new ≡ None
AreRestSame rendition (Some old) None = ⊥
AreRestSame rendition (Some old) (Some new) = (r : ℕ) → r ≢ rendition → (s : Side) → new r s ≡ old r s

-- the files have an item's bytes on the other side than `side`
abbrev pub IsSourceOf : ℕ → Side → (ℕ → List ℕ) → StoredItem → Option Files → Type 0
IsSourceOf rendition side of s None = ⊤
IsSourceOf rendition side of s (Some files) = IsHeld (files rendition) of s × (s.place.side ≡ other side)

-- the files of the renditions from `r` on were cut to the bytes that they need
abbrev pub AreCutFrom : ℕ → List LayoutValue → Files → Files → Type 0
AreCutFrom r [] old new = ⊤
AreCutFrom r (l ∷ more) old new = ((side : Side) → new r side ≡ cut_to (size l side) (old r side)) × AreCutFrom (r + 1) more old new

-- the files of one rendition were cut to the bytes that its layout needs, and no others were changed
abbrev pub IsCutIn : ℕ → LayoutValue → Option Files → Option Files → Type 0
IsCutIn rendition l None new = new ≡ None
IsCutIn rendition l (Some old) None = ⊥
IsCutIn rendition l (Some old) (Some new) =
    ((side : Side) → new rendition side ≡ cut_to (size l side) (old rendition side)) × ((r : ℕ) → r ≢ rendition → (side : Side) → new r side ≡ old r side)

-- all bytes that are kept are among those that a side needs
abbrev pub IsInside : LayoutValue → Type 0
IsInside l = (side : Side) → Each (λ (s : StoredItem). s.place.side ≡ side → s.place.offset + s.place.length ≤ size l side) (stored l)

-- files that are known were cut to the bytes that these layouts need, those of further renditions weren't changed
abbrev pub AreCut : List LayoutValue → Option Files → Option Files → Type 0
AreCut layouts None new = new ≡ None
AreCut layouts (Some old) None = ⊥
AreCut layouts (Some old) (Some new) = AreCutFrom 0 layouts old new × ((r : ℕ) → length layouts ≤ r → (side : Side) → new r side ≡ old r side)

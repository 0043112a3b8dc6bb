-- The bytes of a rendition's items in its two files.
use Rattle.std.specs.Prelude.{◌≡◌, ◌≤◌, ◌+◌, ⊤, ℕ, List, [], ◌∷◌, ◌++◌, length, map, flat_map}
use Rattle.ll_layout.specs.declared.side.Side.{Side}
use Rattle.ll_layout.specs.declared.side.Side.TheVariants.{A, B}
use Rattle.ll_layout.specs.declared.stored.KeptPart.{KeptPart}
use Rattle.ll_layout.specs.declared.stored.StoredSection.{StoredSection}
use Rattle.ll_layout.specs.declared.stored.StoredItem.{StoredItem}
use Rattle.ll_settings.specs.Settings.{Configuration}
use Rattle.ll_window.specs.Compact.{Compact, compact}

-- each of these has the property
abbrev pub Each : {A : Type 0} → (A → Type 0) → List A → Type 0
Each P [] = ⊤
Each P (x ∷ xs) = P x × Each P xs

abbrev pub other : Side → Side
other A = B
other B = A

-- what is kept of a rendition's bytes: those of parts on the other side and on the current one, and those of sections, all on the current one; and
-- how many bytes the two files have
pub record LayoutValue : Type 0 where
  pub window : Compact
  pub side : Side
  pub end : ℕ
  pub end_before : ℕ
  pub older : List KeptPart
  pub newer : List KeptPart
  pub sections : List StoredSection

-- what is kept of a rendition without items
abbrev pub begun : Configuration → LayoutValue
begun c = record { window = compact c []; side = A; end = 0; end_before = 0; older = []; newer = []; sections = [] }

-- the parts whose bytes are kept
abbrev pub parts : LayoutValue → List KeptPart
parts l = l.older ++ l.newer

abbrev pub size_before : List KeptPart → ℕ → ℕ
size_before [] end = 0
size_before (p ∷ ps) end = end

abbrev pub size_by : Side → Side → LayoutValue → ℕ
size_by A A l = l.end
size_by B B l = l.end
size_by A B l = size_before l.older l.end_before
size_by B A l = size_before l.older l.end_before

-- how many bytes of a side have all of its bytes that may still be asked for
abbrev pub size : LayoutValue → Side → ℕ
size l side = size_by l.side side l

-- all bytes that are kept
abbrev pub stored : LayoutValue → List StoredItem
stored l = map (λ (p : KeptPart). p.stored) l.older ++ map (λ (p : KeptPart). p.stored) l.newer ++ map (λ (s : StoredSection). s.stored) l.sections

-- the bytes stand in the first `end` bytes of `side`
pub record IsWithin (side : Side) (end : ℕ) (s : StoredItem) : Type 0 where
  pub on : s.place.side ≡ side
  pub within : s.place.offset + s.place.length ≤ end

-- a file has these bytes after the first `offset`
pub record IsAt (file : List ℕ) (offset : ℕ) (bytes : List ℕ) : Type 0 where
  pub before : List ℕ
  pub later : List ℕ
  pub is : file ≡ before ++ (bytes ++ later)
  pub offset_is : length before ≡ offset

-- the files have the item's bytes, those that `of` gives for its number
pub record IsHeld (files : Side → List ℕ) (of : ℕ → List ℕ) (s : StoredItem) : Type 0 where
  pub at : IsAt (files s.place.side) s.place.offset (of s.count)
  pub length : s.place.length ≡ length (of s.count)

-- the files have all bytes that are kept, those that `of` gives for the numbers of the items
pub record Holds (files : Side → List ℕ) (of : ℕ → List ℕ) (l : LayoutValue) : Type 0 where
  pub older : Each (λ (p : KeptPart). IsHeld files of p.stored) l.older
  pub newer : Each (λ (p : KeptPart). IsHeld files of p.stored) l.newer
  pub sections : Each (λ (s : StoredSection). IsHeld files of s.stored) l.sections
  pub end : length (files l.side) ≡ l.end

abbrev pub file_by : Side → Side → List ℕ → List ℕ → List ℕ
file_by A A this that = this
file_by B B this that = this
file_by A B this that = that
file_by B A this that = that

-- the files with another in the place of one
abbrev pub with_file : Side → List ℕ → (Side → List ℕ) → Side → List ℕ
with_file side file files at = file_by side at file (files at)

-- the bytes of sections, one after another
abbrev pub sections_text : (ℕ → List ℕ) → List StoredSection → List ℕ
sections_text of sections = flat_map (λ (s : StoredSection). of s.stored.count) sections

-- how many bytes sections have
abbrev pub sections_size : List StoredSection → ℕ
sections_size [] = 0
sections_size (s ∷ more) = s.stored.place.length + sections_size more

-- The laws of moved boxes.
use Rattle.std.specs.Prelude.{◌≡◌, ℕ, ◌+◌, ◌<◌, ◌||◌, Bool, false, if◌then◌else◌, All, List, [], ◌∷◌, ◌++◌, length, Option, Some, ⊤}
use Rattle.ll_mp4.specs.declared.kind.Kind.TheVariants.{Moof, Sidx, Mfra, Prft, Emsg}
use Rattle.ll_mp4.specs.declared.track.TimeScale.{TimeScale}
use Rattle.ll_shift.specs.Moved.{is, moved, moved_box, moved_in_moof, moved_in_traf}
use Rattle.ll_shift.specs.Pieces.{Box, each, front, pieces, resized, whole}
use Rattle.ll_shift.specs.declared.shift.Shift.{Shift}

-- bytes that are whole boxes alone
abbrev pub AreBoxes : List ℕ → Type 0
AreBoxes bytes = (pieces bytes).rest ≡ []

-- Each box is moved by itself, whatever comes before or after it: so moving has the same result in whatever runs boxes come.
abbrev pub OneAfterAnother : Type 0
OneAfterAnother =
    (shift : Shift) (scales : List TimeScale) (before after : List ℕ) → AreBoxes before
    → moved shift scales (before ++ after) ≡ moved shift scales before ++ moved shift scales after

-- whether a box of this type can change
abbrev pub may_change : Box → Bool
may_change b = is Moof b || is Prft b || is Emsg b || is Sidx b || is Mfra b

-- Every other box, such as one with samples, stays as it was, after the moved boxes before it and before those after it.
abbrev pub OthersStand : Type 0
OthersStand =
    (shift : Shift) (scales : List TimeScale) (before other after : List ℕ) (b : Box) → AreBoxes before
    → front other ≡ Some (record { box = b; after = [] }) → may_change b ≡ false
    → moved shift scales (before ++ (other ++ after)) ≡ moved shift scales before ++ (other ++ moved shift scales after)

abbrev pub AreBytes : List ℕ → Type 0
AreBytes bytes = All (λ b. b < 256) bytes

-- some bytes without the indexes of segments and fragments
abbrev pub without_indexes : List ℕ → List ℕ
without_indexes bytes = each (λ b. if is Sidx b || is Mfra b then [] else whole b) bytes

-- If a run begins at 0 in a rendition that ends at 0, nothing else changes.
abbrev pub NothingMoves : Type 0
NothingMoves =
    (shift : Shift) (scales : List TimeScale) (bytes : List ℕ) → shift.base ≡ 0 → shift.end ≡ 0 → AreBytes bytes
    → moved shift scales bytes ≡ without_indexes bytes

-- ---- sizes

-- what is made of a box has its header, except for the size, which is the new one
abbrev pub Told : Box → List ℕ → Type 0
Told b made = (content : List ℕ) × (made ≡ resized b.header (length b.header + length content) ++ content)

abbrev pub Every : (Box → Type 0) → List Box → Type 0
Every P [] = ⊤
Every P (b ∷ boxes) = P b × Every P boxes

-- Every box that is written states its own size: boxes at the top, in a `moof`, and in a `traf`.
pub record SizesAreTold : Type 0 where
  pub at_top :
      (shift : Shift) (scales : List TimeScale) (bytes : List ℕ) → AreBytes bytes
      → Every (λ b. (is Sidx b || is Mfra b) ≡ false → Told b (moved_box shift scales b)) (pieces bytes).boxes
  pub in_moof :
      (shift : Shift) (scales : List TimeScale) (more : ℕ) (first : Bool) (moof : List ℕ) → AreBytes moof
      → Every (λ b. Told b (moved_in_moof shift scales more first b)) (pieces moof).boxes
  pub in_traf :
      (shift : Shift) (scale : Option ℕ) (more : ℕ) (traf : List ℕ) → AreBytes traf
      → Every (λ b. Told b (moved_in_traf shift scale more b)) (pieces traf).boxes

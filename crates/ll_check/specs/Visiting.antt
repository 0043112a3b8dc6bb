-- What holds of a visitor and its sink while the lines of a record are passed to it.
use Rattle.std.specs.Prelude.{◌≡◌, ℕ, List, ◌++◌, Option, None, Some}
use Rattle.ll_attr.specs.Words.{pieces_at}
use Rattle.ll_check.specs.Found.{ChainValue, IsAt}
use Rattle.ll_check.specs.Steps.{Tells, reached}
use Rattle.ll_check.specs.declared.told.Told.{Told}
use Rattle.ll_entry.specs.Chain.{Between, Position}

-- what is said of a sink as it was first, of a visitor, and of the sink, after the lines up to the rest, which lead to a position
abbrev pub Holds : Type 0 → Type 0 → Type 1
Holds S V = S → V → S → Position → List (List ℕ) → List (List ℕ) → Type 0

-- it holds after lines, if it held before the first line
abbrev pub StillHolds : {S V : Type 0} → Holds S V → S → V → V → S → List (List ℕ) → Position → List (List ℕ) → Type 0
StillHolds holds first old new sink lines p rest = holds first old first (Between None) lines lines → holds first new sink p lines rest

-- the lines that lead from one position to the other, before the rest
pub record Passed (p q : Position) (lines rest : List (List ℕ)) : Type 0 where
  pub passed : List (List ℕ)
  pub are : lines ≡ passed ++ rest
  pub leads : reached p passed ≡ Some q

-- it holds after some of the lines that are left at a position
abbrev pub HoldsWithin : {S V : Type 0} → Holds S V → S → V → S → List (List ℕ) → Position → List (List ℕ) → Type 0
HoldsWithin holds first visitor sink lines p left =
    (q : Position) × (rest : List (List ℕ)) × Passed p q left rest × holds first visitor sink q lines rest

-- it holds after some of these lines, if it held before the first line
abbrev pub StaysWithin : {S V : Type 0} → Holds S V → S → V → V → S → List (List ℕ) → Type 0
StaysWithin holds first old new sink lines = holds first old first (Between None) lines lines → HoldsWithin holds first new sink lines (Between None) lines

-- ---- for private contracts

-- what a visitor did at lines which say this
abbrev pub HasVisited : {S V : Type 0} → Holds S V → Option ChainValue → V → S → Told → V → S → Type 0
HasVisited {S} {V} holds kept old sink told new after =
    (first : S) (p next : Position) (lines mid rest : List (List ℕ)) → IsAt kept p → holds first old sink p lines mid → Tells p told next mid rest
    → holds first new after next lines rest

-- what a visitor left behind, of which a text was the next one to be read
abbrev pub HasEnded : {S V : Type 0} → Holds S V → Option ChainValue → List ℕ → V → S → V → S → Type 0
HasEnded {S} {V} holds kept text old sink new after =
    (first : S) (p : Position) (lines : List (List ℕ)) (more : List ℕ) → IsAt kept p → holds first old sink p lines (pieces_at 10 (text ++ more))
    → HoldsWithin holds first new after lines p (pieces_at 10 (text ++ more))

-- For private contracts: what a checker has gone over of the text that was read.
use Rattle.std.specs.Prelude.{◌≡◌, ◌≢◌, ◌<◌, ℕ, List, ◌++◌, Option, Err, length, true}
use Rattle.ll_attr.specs.Words.{pieces_at}
use Rattle.ll_check.specs.Found.{ChainValue, IsAt}
use Rattle.ll_check.specs.Lines.{IsShort}
use Rattle.ll_check.specs.Steps.{Moves}
use Rattle.ll_check.specs.Unread.{UnreadValue}
use Rattle.ll_check.specs.declared.told.Told.{Told}
use Rattle.ll_entry.specs.Chain.{Position, checked_from, not_before}
use Rattle.ll_entry.specs.declared.fault.CheckFault.{CheckFault}
use Rattle.ll_entry.specs.declared.fault.CheckKind.TheVariants.{Memory}

-- it has gone over the first lines of a text, which say this, whatever comes after the text; `rest` is left of it
pub record HasPassed (old new : Option ChainValue) (text rest : List ℕ) (told : Told) : Type 0 where
  pub moves : (p : Position) (more : List ℕ) → IsAt old p → Moves new p told (pieces_at 10 (text ++ more)) (pieces_at 10 (rest ++ more))
  pub shorter : length rest < length text

-- fewer lines end in the text than come next, and nothing changes
pub record HasStayed (old new : Option ChainValue) (before after : UnreadValue) : Type 0 where
  pub short : (p : Position) → IsAt old p → IsShort old new p before.text
  pub same : after ≡ before

-- the first lines of a text are wrong, whatever comes after the text; or memory ran out
pub record IsWrongAt (kept : Option ChainValue) (text : List ℕ) (f : CheckFault) : Type 0 where
  pub wrong : (p : Position) (more : List ℕ) → IsAt kept p → f.kind ≢ Memory → checked_from p (pieces_at 10 (text ++ more)) ≡ Err f
  pub later : (p : Position) (more : List ℕ) → IsAt kept p → not_before f.entry (checked_from p (pieces_at 10 (text ++ more))) ≡ true

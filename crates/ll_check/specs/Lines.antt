-- For private contracts: the lines of a text, and what follows them.
use Rattle.std.specs.Prelude.{◌≡◌, ◌<◌, ◌≤◌, ℕ, List, ◌∷◌, ◌++◌, Option, Some, bytes_eq, false, length, true}
use Rattle.ll_attr.specs.Words.{pieces_at}
use Rattle.ll_check.specs.Found.{ChainValue}
use Rattle.ll_entry.specs.Chain.{Between, Inside, Position, text_in}
use Rattle.ll_entry.specs.Frame.{last_line}

-- a text follows the first bytes of another
pub record IsBehind (rest text : List ℕ) : Type 0 where
  pub front : List ℕ
  pub some : 0 < length front
  pub are : text ≡ front ++ rest

-- the number of lines that come next at a position
abbrev pub lines_at : Position → ℕ
lines_at (Between before) = 3
lines_at (Inside ch) = 1

-- fewer lines end in a text than come next, and what is kept stays as it is
pub record IsShort (old new : Option ChainValue) (p : Position) (text : List ℕ) : Type 0 where
  pub short : length (pieces_at 10 text) ≤ lines_at p
  pub same : new ≡ old

-- the first of these lines is the last one of a chunk
pub record IsLast (lines rest : List (List ℕ)) : Type 0 where
  pub line : List ℕ
  pub are : lines ≡ line ∷ rest
  pub last : bytes_eq line last_line ≡ true

-- it is this text, which isn't the last line of a chunk
pub record IsText (text : List ℕ) (lines rest : List (List ℕ)) : Type 0 where
  pub are : lines ≡ text ∷ rest
  pub other : bytes_eq text last_line ≡ false
  pub read : text_in text ≡ Some text

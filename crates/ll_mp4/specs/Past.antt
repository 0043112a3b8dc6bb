-- All calls of a splitter, and their result.
use Rattle.std.specs.Prelude.{ℕ, List, [], ◌∷◌, ◌++◌, Option, Some, None, Result, Ok, Err, fold}
use Rattle.ll_mp4.specs.declared.fault.StreamFault.{StreamFault}
use Rattle.ll_mp4.specs.Lefts.{Left, at_front, fed}
use Rattle.ll_mp4.specs.Streams.{front}

-- a call that changes a splitter: `feed` or `next`; a `feed` that runs out of memory changes nothing, and is
-- left out
pub data Call : Type 0 where
  Feed : List ℕ → Call
  Next : Call

-- what a splitter has left, the bytes that it was fed, and the units that it gave
pub record Past : Type 0 where
  pub left : Left
  pub taken : List ℕ
  pub given : List (List ℕ)

abbrev pub before_any : Past
before_any = record { left = at_front []; taken = []; given = [] }

abbrev pub and_unit : List (List ℕ) → Result (Option (List ℕ)) StreamFault → List (List ℕ)
and_unit units (Ok None) = units
and_unit units (Ok (Some unit)) = units ++ unit ∷ []
and_unit units (Err fault) = units

abbrev pub called : Past → Call → Past
called p (Feed bytes) = record p { left = fed p.left bytes; taken = p.taken ++ bytes }
called p Next = record p { left = (front p.left).1; given = and_unit p.given (front p.left).0 }

abbrev pub past : List Call → Past
past calls = fold called before_any calls

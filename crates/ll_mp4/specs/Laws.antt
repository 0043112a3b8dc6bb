-- The laws of splitters.
use Rattle.std.specs.Prelude.{◌≡◌, ◌≤◌, ℕ, ◌+◌, List, [], ◌∷◌, ◌++◌, Option, Some, None, Result, Ok, Err, length}
use Rattle.ll_mp4.specs.declared.fault.StreamFault.{StreamFault}
use Rattle.ll_mp4.specs.Past.{Call, past}
use Rattle.ll_mp4.specs.Lefts.{Left, at_front, fed, without_index}
use Rattle.ll_mp4.specs.Streams.{Told, and_told, front, told}
use Rattle.ll_mp4.specs.Units.{size_limit}

-- `units` before those of `later`
abbrev pub after_given : List (List ℕ) → Told → Told
after_given units later = record later { units = units ++ later.units }

-- After any calls in any order, with any bytes still to come: the units and the fault of all bytes together are the units that were given, and then
-- the units and the fault of what the splitter has left with the bytes still to come.
abbrev pub WholeStreams : Type 0
WholeStreams =
    (calls : List Call) (more : List ℕ)
    → told (at_front ((past calls).taken ++ more)) ≡ after_given (past calls).given (told (fed (past calls).left more))

-- The units and the fault of what is left are the unit or the fault at its front, and then those of what that leaves: so a fault that is returned is
-- the first one.
abbrev pub FrontIsFirst : Type 0
FrontIsFirst = (left : Left) → told left ≡ and_told (front left) (told (front left).1)

-- a unit or a fault at the front, and then the units and the fault of what it leaves with the bytes `more`
abbrev pub given_then : List ℕ → Result (Option (List ℕ)) StreamFault × Left → Told
given_then more ((Err fault), left) = record { units = []; fault = Some fault }
given_then more ((Ok None), left) = told (fed left more)
given_then more ((Ok (Some unit)), left) = after_given (unit ∷ []) (told (fed left more))

-- The unit or the fault at the front is the first, whatever bytes are still to come.
abbrev pub FrontStays : Type 0
FrontStays = (left : Left) (more : List ℕ) → told (fed left more) ≡ given_then more (front left)

-- `bytes` are the units, one after another, and then the bytes of which `left` is left, except for the `mfra` boxes before each unit and before what
-- is left.
abbrev pub AreThere : List (List ℕ) → Left → List ℕ → Type 0
AreThere [] left bytes = without_index left ≡ without_index (at_front bytes)
AreThere (unit ∷ units) left bytes = (rest : List ℕ) × ((without_index (at_front bytes)).unread ≡ unit ++ rest) × AreThere units left rest

-- the units that were given, and then what is left, are what was fed, except for `mfra` boxes at the front of units
abbrev pub NothingIsLost : Type 0
NothingIsLost = (calls : List Call) → AreThere (past calls).given (past calls).left (past calls).taken

-- if no unit is given and there is no fault, at most as many bytes are kept as a unit and a header can have, less one
abbrev pub FewAreKept : Type 0
FewAreKept = (left : Left) → (front left).0 ≡ Ok None → length (front left).1.unread ≤ size_limit + 15

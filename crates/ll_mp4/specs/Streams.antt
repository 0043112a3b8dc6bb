-- The units of an encoder's bytes.
use Rattle.std.specs.Prelude.{ℕ, zero, suc, ◌==◌, List, [], ◌∷◌, take, drop, length, if◌then◌else◌, Option, Some, None, Result, Ok, Err}
use Rattle.ll_mp4.specs.Boxes.{only}
pub use Rattle.ll_mp4.specs.Lefts.{Left, at_front, fed, without_index}
use Rattle.ll_mp4.specs.Units.{Unit, Open, Refused, Closed, unit_of}
use Rattle.ll_mp4.specs.declared.fault.StreamFault.{StreamFault}
use Rattle.ll_mp4.specs.declared.fault.StreamFault.TheVariants.{BadBox, Missing, Cut}
use Rattle.ll_mp4.specs.declared.kind.Kind.TheVariants.{Moof, Mdat}

-- ---- the front unit

abbrev pub front_unit : Left → Unit → Result (Option (List ℕ)) StreamFault × Left
front_unit left Open = (Ok None, left)
front_unit left (Refused fault) = (Err fault, left)
front_unit left (Closed size) = (Ok (Some (take size left.unread)), at_front (drop size left.unread))

-- the unit at the front, if all of it has come, and what is left after it; or a fault, which takes away only `mfra` boxes, so that it is
-- returned again
abbrev pub front : Left → Result (Option (List ℕ)) StreamFault × Left
front left = front_unit (without_index left) (unit_of (without_index left).unread)

-- ---- the end of the input

abbrev pub end_by : Result (List ℕ) StreamFault → Option StreamFault
end_by (Err (Missing kind)) = None
end_by (Err BadBox) = Some Cut
end_by other = Some (Missing Mdat)

-- the fault if the input ends with this left: it ends inside a box, even an `mfra`, or a `moof` has no `mdat`
abbrev pub end_fault : Left → Option StreamFault
end_fault left = if left.skip == 0 then end_by (only Moof left.unread) else Some Cut

-- ---- all units

-- the units of a stream, and the fault that ends them, if there is one
pub record Told : Type 0 where
  pub units : List (List ℕ)
  pub fault : Option StreamFault

-- a unit or a fault at the front, and then `later`
abbrev pub and_told : Result (Option (List ℕ)) StreamFault × Left → Told → Told
and_told ((Err fault), left) later = record { units = []; fault = Some fault }
and_told ((Ok None), left) later = record { units = []; fault = end_fault left }
and_told ((Ok (Some unit)), left) later = record later { units = unit ∷ later.units }

-- the units, at most n of them, and the fault
abbrev pub told_by : ℕ → Left → Told
told_by zero left = record { units = []; fault = end_fault left }
told_by (suc n) left = and_told (front left) (told_by n (front left).1)

-- the units and the fault of the bytes that are left, if the input ends with them; each unit has a byte at least
abbrev pub told : Left → Told
told left = told_by (suc (length left.unread)) left

-- Where a unit ends: it is the boxes up to the end of the first `moov` or `mdat` box.
use Rattle.std.specs.Prelude.{ℕ, ◌+◌, ◌==◌, ◌||◌, Bool, List, nat_lt, if◌then◌else◌, Option, Some, None, Result, Ok, Err}
use Rattle.ll_mp4.specs.Kinds.{code}
use Rattle.ll_mp4.specs.Boxes.{Header, Boxes, Done, Torn, Box, boxes}
use Rattle.ll_mp4.specs.declared.fault.StreamFault.{StreamFault}
use Rattle.ll_mp4.specs.declared.fault.StreamFault.TheVariants.{TooLarge}
use Rattle.ll_mp4.specs.declared.kind.Kind.TheVariants.{Moov, Mdat}

-- the most bytes of a unit
abbrev pub size_limit : ℕ
size_limit = 1048576

-- whether a box of this type ends a unit
abbrev pub is_last : ℕ → Bool
is_last kind = (kind == code Moov) || (kind == code Mdat)

-- the unit at the front of some bytes: not all of it has come, it is refused, or it ends after this number of bytes
pub data Unit : Type 0 where
  Open : Unit
  Refused : StreamFault → Unit
  Closed : ℕ → Unit

-- a unit of at least `size` bytes
abbrev pub within : ℕ → Unit → Unit
within size unit = if nat_lt size_limit size then Refused TooLarge else unit

abbrev pub torn : ℕ → Header → Unit
torn before (Ok None) = Open
torn before (Ok (Some head)) = within (before + head.size) Open
torn before (Err fault) = Refused fault

-- the unit that goes on with these boxes after `before` bytes
abbrev pub unit_from : ℕ → Boxes → Unit
unit_from before Done = Open
unit_from before (Torn header) = torn before header
unit_from before (Box kind size content later) = within (before + size) (if is_last kind then Closed (before + size) else unit_from (before + size) later)

abbrev pub unit_of : List ℕ → Unit
unit_of bytes = unit_from 0 (boxes bytes)

-- the unit for a result of `read_unit`
abbrev pub unit_found : Result (Option ℕ) StreamFault → Unit
unit_found (Ok None) = Open
unit_found (Ok (Some size)) = Closed size
unit_found (Err fault) = Refused fault

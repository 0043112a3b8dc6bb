-- The boxes in the content of another, by the numbers of their types.
use Rattle.std.specs.Prelude.{ℕ, List, Option, Some, None, Result, Ok, Err}
use Rattle.ll_mp4.specs.Boxes.{Contents, Ended, Broken, Content, boxes, contents, front_of}
use Rattle.ll_mp4.specs.Found.{Inner, inner}
use Rattle.ll_mp4.specs.declared.boxes.FoundBox.{FoundBox}
use Rattle.ll_mp4.specs.declared.fault.StreamFault.{StreamFault}
use Rattle.ll_mp4.specs.declared.fault.StreamFault.TheVariants.{BadBox}

abbrev pub first_of : Contents → Result (List ℕ) StreamFault
first_of Ended = Err BadBox
first_of Broken = Err BadBox
first_of (Content content later) = Ok content

-- the content of the first box of a type
abbrev pub child : ℕ → List ℕ → Result (List ℕ) StreamFault
child kind bytes = first_of (contents kind (boxes bytes))

abbrev pub some_front : Result (Option Inner) StreamFault → Result Inner StreamFault
some_front (Ok None) = Err BadBox
some_front (Ok (Some i)) = Ok i
some_front (Err fault) = Err fault

-- the box at the front of bytes in which only whole boxes are allowed
abbrev pub front : List ℕ → Result Inner StreamFault
front bytes = some_front (inner (front_of bytes))

-- the same as it is found
abbrev pub found_front : Result FoundBox StreamFault → Result Inner StreamFault
found_front (Ok f) = Ok (record { kind = f.kind; content = f.content.now; rest = f.rest.now })
found_front (Err fault) = Err fault

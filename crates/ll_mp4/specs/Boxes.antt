-- The boxes in some bytes, one after another (ISO/IEC 14496-12, section 4.2).
use Rattle.std.specs.Prelude.{ℕ, zero, suc, ◌==◌, Bool, true, false, List, [], take, drop, length, nat_lt, if◌then◌else◌, Option, Some, None, Result, Ok, Err}
use Rattle.byteorder.specs.Endian.{big_number}
use Rattle.ll_mp4.specs.Kinds.{code}
use Rattle.ll_mp4.specs.declared.boxes.BoxHead.{BoxHead}
use Rattle.ll_mp4.specs.declared.kind.Kind.{Kind}
use Rattle.ll_mp4.specs.declared.fault.StreamFault.{StreamFault}
use Rattle.ll_mp4.specs.declared.fault.StreamFault.TheVariants.{BadBox, Missing, Several}

-- ---- one box

-- the header at the front of some bytes, or none if some of its bytes are missing
abbrev pub Header : Type 0
Header = Result (Option BoxHead) StreamFault

-- The header of a box with this size, or BadBox if the size is less than the header's length. So a size of 0, by which a box
-- extends to the end of the file, is refused too.
abbrev pub sized : ℕ → ℕ → ℕ → Header
sized kind len size = if nat_lt size len then Err BadBox else Ok (Some (record { kind = kind; len = len; size = size }))

-- the size has 64 bits and follows the type
abbrev pub large_header : List ℕ → Header
large_header bytes = if nat_lt (length bytes) 16 then Ok None else sized (big_number 4 (drop 4 bytes)) 16 (big_number 8 (drop 8 bytes))

abbrev pub header_by : ℕ → List ℕ → Header
header_by size bytes = if size == 1 then large_header bytes else sized (big_number 4 (drop 4 bytes)) 8 size

-- a size of 32 bits and a type of four bytes
abbrev pub header_of : List ℕ → Header
header_of bytes = if nat_lt (length bytes) 8 then Ok None else header_by (big_number 4 bytes) bytes

-- the box at the front of some bytes
pub data Front : Type 0 where
  -- there are no bytes
  Nothing : Front
  -- the box isn't whole, and has this header
  Part : Header → Front
  -- its type, its size, its content, and the bytes after it
  Whole : ℕ → ℕ → List ℕ → List ℕ → Front

abbrev pub front_by : Header → List ℕ → Front
front_by (Ok None) bytes = Part (Ok None)
front_by (Err fault) bytes = Part (Err fault)
front_by (Ok (Some head)) bytes =
    if nat_lt (length bytes) head.size then Part (Ok (Some head))
    else Whole head.kind head.size (drop head.len (take head.size bytes)) (drop head.size bytes)

abbrev pub front_of : List ℕ → Front
front_of bytes = if length bytes == 0 then Nothing else front_by (header_of bytes) bytes

-- ---- all boxes

pub data Boxes : Type 0 where
  -- no bytes are left
  Done : Boxes
  -- what is left isn't a whole box, and has this header
  Torn : Header → Boxes
  -- a box's type, its size and its content; and the boxes after it
  Box : ℕ → ℕ → List ℕ → Boxes → Boxes

abbrev pub and_then : Front → Boxes → Boxes
and_then Nothing later = Done
and_then (Part header) later = Torn header
and_then (Whole kind size content rest) later = Box kind size content later

-- the bytes after the front box
abbrev pub after : Front → List ℕ
after Nothing = []
after (Part header) = []
after (Whole kind size content rest) = rest

-- the boxes, at most n of them
abbrev pub boxes_by : ℕ → List ℕ → Boxes
boxes_by zero bytes = Done
boxes_by (suc n) bytes = and_then (front_of bytes) (boxes_by n (after (front_of bytes)))

-- all boxes: each has a byte at least
abbrev pub boxes : List ℕ → Boxes
boxes bytes = boxes_by (length bytes) bytes

-- ---- the boxes of one type

pub data Contents : Type 0 where
  Ended : Contents
  -- what follows isn't a whole box
  Broken : Contents
  Content : List ℕ → Contents → Contents

abbrev pub and_content : Bool → List ℕ → Contents → Contents
and_content true content later = Content content later
and_content false content later = later

-- the contents of the boxes of a type
abbrev pub contents : ℕ → Boxes → Contents
contents kind Done = Ended
contents kind (Torn header) = Broken
contents kind (Box k size content later) = and_content (k == kind) content (contents kind later)

abbrev pub contents_in : Kind → List ℕ → Contents
contents_in kind bytes = contents (code kind) (boxes bytes)

abbrev pub at_most_one_of : Kind → Contents → Result (Option (List ℕ)) StreamFault
at_most_one_of kind Ended = Ok None
at_most_one_of kind Broken = Err BadBox
at_most_one_of kind (Content content Ended) = Ok (Some content)
at_most_one_of kind (Content content Broken) = Err BadBox
at_most_one_of kind (Content content (Content other later)) = Err (Several kind)

-- the content of the only box of a type, if there is one; that there are several comes before a fault after the second of them
abbrev pub at_most_one : Kind → List ℕ → Result (Option (List ℕ)) StreamFault
at_most_one kind bytes = at_most_one_of kind (contents_in kind bytes)

abbrev pub only_of : Kind → Result (Option (List ℕ)) StreamFault → Result (List ℕ) StreamFault
only_of kind (Ok None) = Err (Missing kind)
only_of kind (Ok (Some content)) = Ok content
only_of kind (Err fault) = Err fault

-- the content of the only box of a type
abbrev pub only : Kind → List ℕ → Result (List ℕ) StreamFault
only kind bytes = only_of kind (at_most_one kind bytes)

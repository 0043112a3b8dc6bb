-- The boxes in some bytes, one after another (ISO/IEC 14496-12, section 4.2), and what is left after them.
use Rattle.std.specs.Prelude.{ℕ, zero, suc, ◌==◌, ◌+◌, List, [], ◌∷◌, ◌++◌, take, drop, length, nat_lt, if◌then◌else◌, Option, Some, None, Ok, Err}
use Rattle.std.specs.List.{flat_map}
use Rattle.byteorder.specs.Endian.{big_bytes}
use Rattle.ll_mp4.specs.Boxes.{Header, header_of}

-- a box: its type as a number, the bytes of its header, and those of its content
pub record Box : Type 0 where
  pub kind : ℕ
  pub header : List ℕ
  pub content : List ℕ

-- ---- the front box

-- the box at the front of some bytes, and the bytes after it
pub record Front : Type 0 where
  pub box : Box
  pub after : List ℕ

abbrev pub front_by : Header → List ℕ → Option Front
front_by (Ok None) bytes = None
front_by (Err fault) bytes = None
front_by (Ok (Some head)) bytes =
    if nat_lt (length bytes) head.size then None
    else Some (record {
      box = record { kind = head.kind; header = take head.len (take head.size bytes); content = drop head.len (take head.size bytes) };
      after = drop head.size bytes;
    })

-- the box at the front, or none if it isn't whole
abbrev pub front : List ℕ → Option Front
front bytes = front_by (header_of bytes) bytes

-- ---- all boxes

-- boxes, and the bytes after them, which aren't a whole box
pub record Pieces : Type 0 where
  pub boxes : List Box
  pub rest : List ℕ

abbrev pub and_front : List ℕ → Option Front → Pieces → Pieces
and_front bytes None later = record { boxes = []; rest = bytes }
and_front bytes (Some f) later = record { boxes = f.box ∷ later.boxes; rest = later.rest }

abbrev pub after_front : Option Front → List ℕ
after_front None = []
after_front (Some f) = f.after

-- the boxes, at most n of them
abbrev pub pieces_by : ℕ → List ℕ → Pieces
pieces_by zero bytes = record { boxes = []; rest = bytes }
pieces_by (suc n) bytes = and_front bytes (front bytes) (pieces_by n (after_front (front bytes)))

-- all boxes: each has a byte at least
abbrev pub pieces : List ℕ → Pieces
pieces bytes = pieces_by (length bytes) bytes

-- ---- boxes written again

-- a box, unchanged
abbrev pub whole : Box → List ℕ
whole b = b.header ++ b.content

-- some bytes with each box replaced
abbrev pub each : (Box → List ℕ) → List ℕ → List ℕ
each f bytes = flat_map f (pieces bytes).boxes ++ (pieces bytes).rest

-- a header with another size, which takes as many bytes as the old one
abbrev pub resized : List ℕ → ℕ → List ℕ
resized header size = if length header == 16 then take 8 header ++ big_bytes 8 size else big_bytes 4 size ++ drop 4 header

-- the header of a box that grows by `more` bytes
abbrev pub grown : Box → ℕ → List ℕ
grown b more = resized b.header (length b.header + length b.content + more)

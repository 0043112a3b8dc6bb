-- What a splitter has left of an encoder's bytes. An `mfra` box (ISO/IEC 14496-12, section 8.8.9) at the front of a unit belongs to no unit: its
-- bytes are dropped as they come, however many they are.
use Rattle.std.specs.Prelude.{ℕ, ◌+◌, ◌-◌, ◌==◌, Bool, true, false, List, ◌++◌, drop, length, Some, None, Ok, Err}
use Rattle.ll_mp4.specs.Boxes.{Boxes, Done, Torn, Box, Header, boxes}
use Rattle.ll_mp4.specs.Kinds.{code}
use Rattle.ll_mp4.specs.declared.kind.Kind.TheVariants.{Mfra}

-- The number of the next bytes to be dropped, and the bytes that came and weren't given out. While some are still to be dropped, a splitter has none
-- of these.
pub record Left : Type 0 where
  pub skip : ℕ
  pub unread : List ℕ

-- bytes that begin at the front of a unit
abbrev pub at_front : List ℕ → Left
at_front bytes = record { skip = 0; unread = bytes }

-- what is left of bytes when the first n are dropped
abbrev pub dropped : ℕ → List ℕ → Left
dropped n bytes = record { skip = n - length bytes; unread = drop n bytes }

-- what is left once more bytes have come
abbrev pub fed : Left → List ℕ → Left
fed left bytes = dropped left.skip (left.unread ++ bytes)

-- ---- `mfra` boxes

abbrev pub is_index : ℕ → Bool
is_index kind = kind == code Mfra

abbrev pub size_where : Bool → ℕ → ℕ
size_where true size = size
size_where false size = 0

-- the size of a torn `mfra` box, else 0
abbrev pub torn_index : Header → ℕ
torn_index (Ok (Some head)) = size_where (is_index head.kind) head.size
torn_index (Ok None) = 0
torn_index (Err fault) = 0

-- the number of bytes of the `mfra` boxes at the front, those that haven't come included
abbrev pub index_size : Boxes → ℕ
index_size Done = 0
index_size (Torn header) = torn_index header
index_size (Box kind size content later) = size_where (is_index kind) (size + index_size later)

-- what is left when the `mfra` boxes at its front are dropped
abbrev pub without_index : Left → Left
without_index left = dropped (left.skip + index_size (boxes (drop left.skip left.unread))) left.unread

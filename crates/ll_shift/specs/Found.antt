-- For private contracts: the boxes that are found and written.
use Rattle.std.specs.Prelude.{◌+◌, ◌≤◌, ◌<◌, ◌^◌, length, Option, Some, None}
use Rattle.ll_shift.specs.Pieces.{Box, Front}
use Rattle.ll_shift.specs.declared.pieces.Piece.{Piece}

abbrev pub box_of : Piece → Box
box_of p = record { kind = p.kind; header = p.header.now; content = p.content.now }

-- the front box that was cut off
abbrev pub cut : Option Piece → Option Front
cut None = None
cut (Some p) = Some (record { box = box_of p; after = p.rest.now })

-- a box's header has at least a size and a type, and the number of its bytes is below 2^63
pub record IsBox (b : Box) : Type 0 where
  pub full : 8 ≤ length b.header
  pub few : length b.header + length b.content < 2 ^ 63

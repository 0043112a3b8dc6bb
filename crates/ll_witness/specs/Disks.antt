-- The files of a disk in memory, for a channel of one rendition.
use Rattle.std.specs.Prelude.{ℕ, zero, suc, List, []}
use Rattle.ll_layout.specs.declared.side.Side.{Side}
use Rattle.ll_layout.specs.declared.side.Side.TheVariants.{A, B}
use Rattle.ll_spool.specs.Files.{Files}

-- the bytes of the two sides of the first rendition; no other has files
abbrev pub files_of : (a b : List ℕ) → Files
files_of a b zero A = a
files_of a b zero B = b
files_of a b (suc r) side = []

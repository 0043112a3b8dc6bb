-- The sections so far stand one after another.
use Rattle.std.proofs.Common.{◌≡◌}
use Rattle.ll_layout.specs.Held.{sections_size}
use Rattle.ll_layout.specs.Moves.{placed}
use Rattle.ll_layout.proofs.moves.place_sections.Given as goal

abbrev pub invariant-loop-section : goal.invariant-loop-section
invariant-loop-section l = (l.placed.items ≡ placed l.side 0 l.yielded) × (l.end ≡ sections_size l.yielded)

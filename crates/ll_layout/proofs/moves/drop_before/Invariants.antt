-- What is shown of the parts that are left is what is shown of all; each turn leaves one part fewer.
use Rattle.std.proofs.Common.{◌≡◌, length}
use Rattle.ll_layout.specs.Moves.{shown_from}
use Rattle.ll_layout.proofs.moves.drop_before.Given as goal

abbrev pub invariant-loop-part : goal.invariant-loop-part
invariant-loop-part l = shown_from l.first l.parts.items ≡ shown_from l.first l.fn.parts.items

abbrev pub decreases-loop-part : goal.decreases-loop-part
decreases-loop-part l = length l.parts.items

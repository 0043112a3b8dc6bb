-- What was written, and then the boxes that are left, moved.
use Rattle.std.proofs.Common.{◌≡◌, ◌++◌, length}
use Rattle.ll_shift.specs.Moved.{moved_in_traf}
use Rattle.ll_shift.specs.Pieces.{each}
use Rattle.ll_shift.proofs.traf.push_boxes.Given as goal

abbrev pub invariant-boxes : goal.invariant-boxes
invariant-boxes l =
    l.fn.out.items ++ each (moved_in_traf l.fn.shift l.fn.scale l.fn.more) l.fn.traf
    ≡ l.out.items ++ each (moved_in_traf l.fn.shift l.fn.scale l.fn.more) l.rest

abbrev pub decreases-boxes : goal.decreases-boxes
decreases-boxes l = length l.rest

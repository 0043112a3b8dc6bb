-- What was written, and then the boxes that are left, moved.
use Rattle.std.proofs.Common.{◌≡◌, ◌++◌, true, length}
use Rattle.ll_shift.specs.Moved.{moved_boxes}
use Rattle.ll_shift.proofs.moof.push_boxes.Given as goal

abbrev pub invariant-boxes : goal.invariant-boxes
invariant-boxes l =
    l.fn.out.items ++ moved_boxes l.fn.shift l.fn.scales l.fn.more true l.fn.moof
    ≡ l.out.items ++ moved_boxes l.fn.shift l.fn.scales l.fn.more l.first l.rest

abbrev pub decreases-boxes : goal.decreases-boxes
decreases-boxes l = length l.rest

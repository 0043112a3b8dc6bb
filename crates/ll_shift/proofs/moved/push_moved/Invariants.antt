-- What was written, and then the boxes that are left, moved.
use Rattle.std.proofs.Common.{◌≡◌, ◌++◌, length}
use Rattle.ll_shift.specs.Moved.{moved}
use Rattle.ll_shift.proofs.moved.push_moved.Given as goal

abbrev pub invariant-boxes : goal.invariant-boxes
invariant-boxes l =
    l.fn.out.items ++ moved l.fn.shift l.fn.scales l.fn.bytes
    ≡ l.out.items ++ moved l.fn.shift l.fn.scales l.rest

abbrev pub decreases-boxes : goal.decreases-boxes
decreases-boxes l = length l.rest

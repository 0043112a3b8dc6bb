-- The boxes that are left have the bytes that are missing.
use Rattle.std.proofs.Common.{◌≡◌, ◌+◌, ◌≤◌, length}
use Rattle.ll_shift.specs.Moved.{box_growth, total}
use Rattle.ll_shift.specs.Pieces.{pieces}
use Rattle.ll_shift.proofs.traf.traf_growth.Given as goal

abbrev pub invariant-boxes : goal.invariant-boxes
invariant-boxes l = record {
  same : total (box_growth l.fn.shift l.scale) (pieces l.fn.traf).boxes ≡ l.sum + total (box_growth l.fn.shift l.scale) (pieces l.rest).boxes;
  few : l.sum + length l.rest ≤ length l.fn.traf;
}

abbrev pub decreases-boxes : goal.decreases-boxes
decreases-boxes l = length l.rest

-- The boxes that are left have the bytes that are missing.
use Rattle.std.proofs.Common.{◌≡◌, ◌+◌, ◌≤◌, length}
use Rattle.ll_shift.specs.Moved.{growth_in_moof, total}
use Rattle.ll_shift.specs.Pieces.{pieces}
use Rattle.ll_shift.proofs.moof.moof_growth.Given as goal

abbrev pub invariant-boxes : goal.invariant-boxes
invariant-boxes l = record {
  same :
      total (growth_in_moof l.fn.shift l.fn.scales) (pieces l.fn.moof).boxes
      ≡ l.sum + total (growth_in_moof l.fn.shift l.fn.scales) (pieces l.rest).boxes;
  few : l.sum + length l.rest ≤ length l.fn.moof;
}

abbrev pub decreases-boxes : goal.decreases-boxes
decreases-boxes l = length l.rest

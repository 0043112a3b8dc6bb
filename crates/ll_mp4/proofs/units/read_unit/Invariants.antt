-- The boxes that are left go on with the unit.
use Rattle.std.proofs.Common.{◌≡◌, ◌+◌, ◌≤◌, length}
use Rattle.ll_mp4.specs.Boxes.{boxes}
use Rattle.ll_mp4.specs.Units.{size_limit, unit_from, unit_of}
use Rattle.ll_mp4.proofs.units.read_unit.Given as goal

abbrev pub invariant-boxes : goal.invariant-boxes
invariant-boxes l = record {
  same : unit_of l.fn.bytes ≡ unit_from l.end (boxes l.rest);
  sum : l.end + length l.rest ≡ length l.fn.bytes;
  few : l.end ≤ size_limit;
}

abbrev pub decreases-boxes : goal.decreases-boxes
decreases-boxes l = length l.rest

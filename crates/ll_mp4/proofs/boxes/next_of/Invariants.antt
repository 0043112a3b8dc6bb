-- The boxes that are left hold the same ones of the type.
use Rattle.std.proofs.Common.{◌≡◌, ◌≤◌, length}
use Rattle.ll_mp4.specs.Boxes.{contents_in}
use Rattle.ll_mp4.proofs.boxes.next_of.Given as goal

abbrev pub invariant-boxes : goal.invariant-boxes
invariant-boxes l = record {
  same : contents_in l.fn.kind l.fn.bytes ≡ contents_in l.fn.kind l.rest;
  shorter : length l.rest ≤ length l.fn.bytes;
}

abbrev pub decreases-boxes : goal.decreases-boxes
decreases-boxes l = length l.rest

-- The same is left without the `mfra` boxes at the front.
use Rattle.std.proofs.Common.{◌≡◌, length}
use Rattle.ll_mp4.specs.Boxes.{boxes}
use Rattle.ll_mp4.specs.Lefts.{dropped, index_size}
use Rattle.ll_mp4.proofs.units.after_index.Given as goal

abbrev pub invariant-boxes : goal.invariant-boxes
invariant-boxes l = dropped (index_size (boxes l.fn.bytes)) l.fn.bytes ≡ dropped (index_size (boxes l.rest)) l.rest

abbrev pub decreases-boxes : goal.decreases-boxes
decreases-boxes l = length l.rest

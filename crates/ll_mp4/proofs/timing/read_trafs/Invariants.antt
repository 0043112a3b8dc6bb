-- The tracks' fragments that are left go on with the timing.
use Rattle.std.proofs.Common.{◌≡◌, None, length}
use Rattle.ll_mp4.specs.Boxes.{contents_in}
use Rattle.ll_mp4.specs.Timings.{and_trafs}
use Rattle.ll_mp4.specs.declared.kind.Kind.TheVariants.{Traf}
use Rattle.ll_mp4.proofs.timing.read_trafs.Given as goal

abbrev pub invariant-tracks : goal.invariant-tracks
invariant-tracks l = and_trafs l.fn.movie None (contents_in Traf l.fn.moof) ≡ and_trafs l.fn.movie l.timing (contents_in Traf l.rest)

abbrev pub decreases-tracks : goal.decreases-tracks
decreases-tracks l = length l.rest

-- The tracks' fragments that are left have the first decode time.
use Rattle.std.proofs.Common.{◌≡◌, length}
use Rattle.ll_mp4.specs.Boxes.{contents_in}
use Rattle.ll_mp4.specs.DecodeTimes.{first_decode_time}
use Rattle.ll_mp4.specs.declared.kind.Kind.TheVariants.{Traf}
use Rattle.ll_mp4.proofs.timing.first_decode_time.Given as goal

abbrev pub invariant-tracks : goal.invariant-tracks
invariant-tracks l = first_decode_time l.fn.movie (contents_in Traf l.fn.moof) ≡ first_decode_time l.fn.movie (contents_in Traf l.rest)

abbrev pub decreases-tracks : goal.decreases-tracks
decreases-tracks l = length l.rest

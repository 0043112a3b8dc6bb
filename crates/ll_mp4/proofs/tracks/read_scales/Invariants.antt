-- The tracks that are left go on with the time scales.
use Rattle.std.proofs.Common.{◌≡◌, [], length}
use Rattle.ll_mp4.specs.Boxes.{contents_in}
use Rattle.ll_mp4.specs.Movies.{listed_in}
use Rattle.ll_mp4.specs.Tracks.{scales_after}
use Rattle.ll_mp4.specs.declared.kind.Kind.TheVariants.{Trak}
use Rattle.ll_mp4.proofs.tracks.read_scales.Given as goal

abbrev pub invariant-tracks : goal.invariant-tracks
invariant-tracks l = scales_after [] (listed_in (contents_in Trak l.fn.moov)) ≡ scales_after l.scales.items (listed_in (contents_in Trak l.rest))

abbrev pub decreases-tracks : goal.decreases-tracks
decreases-tracks l = length l.rest

-- The tracks that are left go on with the one that was chosen.
use Rattle.std.proofs.Common.{◌≡◌, None, length}
use Rattle.ll_mp4.specs.Boxes.{contents_in}
use Rattle.ll_mp4.specs.Movies.{listed_in}
use Rattle.ll_mp4.specs.Tracks.{chosen_after}
use Rattle.ll_mp4.specs.declared.kind.Kind.TheVariants.{Trak}
use Rattle.ll_mp4.proofs.tracks.choose.Given as goal

abbrev pub invariant-tracks : goal.invariant-tracks
invariant-tracks l = chosen_after None (listed_in (contents_in Trak l.fn.moov)) ≡ chosen_after l.chosen (listed_in (contents_in Trak l.rest))

abbrev pub decreases-tracks : goal.decreases-tracks
decreases-tracks l = length l.rest

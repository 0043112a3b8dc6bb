-- The tracks that are left go on with those that were read.
use Rattle.std.proofs.Common.{◌≡◌, [], length}
use Rattle.ll_codecs.specs.Sections.{tracks_after, tracks_in}
use Rattle.ll_mp4.specs.Boxes.{contents_in}
use Rattle.ll_mp4.specs.declared.kind.Kind.TheVariants.{Trak}
use Rattle.ll_codecs.proofs.track.read_tracks.Given as goal

abbrev pub invariant-tracks : goal.invariant-tracks
invariant-tracks l = tracks_after [] (tracks_in (contents_in Trak l.fn.moov)) ≡ tracks_after l.tracks.items (tracks_in (contents_in Trak l.rest))

abbrev pub decreases-tracks : goal.decreases-tracks
decreases-tracks l = length l.rest

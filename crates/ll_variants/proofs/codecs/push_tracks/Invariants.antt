-- The codecs so far go on with those that are left.
use Rattle.std.proofs.Common.{◌≡◌, length}
use Rattle.ll_variants.specs.Playlists.{with_tracks}
use Rattle.ll_variants.proofs.codecs.push_tracks.Given as goal

abbrev pub invariant-tracks : goal.invariant-tracks
invariant-tracks l = with_tracks l.codecs.items l.left ≡ with_tracks l.initial.codecs.items l.fn.tracks

abbrev pub decreases-tracks : goal.decreases-tracks
decreases-tracks l = length l.left

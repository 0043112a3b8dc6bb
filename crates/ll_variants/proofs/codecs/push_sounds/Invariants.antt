-- The codecs so far go on with those that are left.
use Rattle.std.proofs.Common.{◌≡◌, length}
use Rattle.ll_variants.specs.Playlists.{with_sounds}
use Rattle.ll_variants.proofs.codecs.push_sounds.Given as goal

abbrev pub invariant-streams : goal.invariant-streams
invariant-streams l = with_sounds l.codecs.items l.left ≡ with_sounds l.initial.codecs.items l.fn.streams

abbrev pub decreases-streams : goal.decreases-streams
decreases-streams l = length l.left

-- The rates so far go on with the renditions that are left.
use Rattle.std.proofs.Common.{◌≡◌, length}
use Rattle.ll_variants.specs.Playlists.{no_rates, sound_rates}
use Rattle.ll_variants.proofs.playlist.sound_rates.Given as goal

abbrev pub invariant-streams : goal.invariant-streams
invariant-streams l = sound_rates l.rates l.left ≡ sound_rates no_rates l.fn.streams

abbrev pub decreases-streams : goal.decreases-streams
decreases-streams l = length l.left

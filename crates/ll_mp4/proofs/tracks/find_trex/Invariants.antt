-- The defaults that are left have those of the track.
use Rattle.std.proofs.Common.{◌≡◌, length}
use Rattle.ll_mp4.specs.Boxes.{contents_in}
use Rattle.ll_mp4.specs.Movies.{trex_for}
use Rattle.ll_mp4.specs.declared.kind.Kind.TheVariants.{Trex}
use Rattle.ll_mp4.proofs.tracks.find_trex.Given as goal

abbrev pub invariant-defaults : goal.invariant-defaults
invariant-defaults l = trex_for l.fn.id (contents_in Trex l.fn.mvex) ≡ trex_for l.fn.id (contents_in Trex l.rest)

abbrev pub decreases-defaults : goal.decreases-defaults
decreases-defaults l = length l.rest

-- The tracks that are left have the first pictures.
use Rattle.std.proofs.Common.{◌≡◌, length}
use Rattle.ll_codecs.specs.Sections.{first_picture}
use Rattle.ll_codecs.proofs.section.first_picture.Given as goal

abbrev pub invariant-tracks : goal.invariant-tracks
invariant-tracks l = first_picture l.fn.tracks ≡ first_picture l.left

abbrev pub decreases-tracks : goal.decreases-tracks
decreases-tracks l = length l.left

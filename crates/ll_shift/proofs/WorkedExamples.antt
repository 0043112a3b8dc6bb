-- The worked examples, computed.
use Rattle.std.proofs.Common.{refl}
use Rattle.ll_mp4.specs.Kinds.{code}
use Rattle.ll_shift.specs.Worked.{WorkedMoves}

pub worked : WorkedMoves
unfolding code
worked = record { two_tracks = refl; long = refl; negative = refl; unknown = refl; grows = refl; before = refl; beside = refl; same_but_times = refl; samples_stand = refl }

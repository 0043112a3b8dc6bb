-- Before any byte no line has ended and none is open.
use Rattle.std.proofs.Common.{[], arith, refl}
use Rattle.ll_replay.proofs.stream.Stream.new.Goals as goal

pub returns-clause-stands : goal.returns-clause-stands
returns-clause-stands c base = record { holds = c.new-2.ensures; fits = rw c.new-2.ensures (omega arith); list = []; lines = refl; stands = c.new.ensures.stands base }

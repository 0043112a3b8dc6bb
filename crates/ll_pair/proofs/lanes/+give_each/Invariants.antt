-- Each call has one origin fewer.
use Rattle.std.proofs.Common.{length}
use Rattle.ll_pair.proofs.lanes.+give_each.Given as goal

abbrev pub decreases-give_each : goal.decreases-give_each
decreases-give_each l = length l.lanes.now

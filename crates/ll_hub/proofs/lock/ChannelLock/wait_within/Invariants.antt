-- Nothing was seen while the reply wasn't there.
use Rattle.std.specs.Prelude.{◌≡◌}
use Rattle.ll_hub.proofs.lock.ChannelLock.wait_within.Given as goal

abbrev pub invariant-loop : goal.invariant-loop
invariant-loop g l = l.past ≡ l.fn.past

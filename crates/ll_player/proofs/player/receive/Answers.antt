-- The bytes that came are fed.
use Rattle.std.proofs.Common.{arith, refl, take}
use Rattle.ll_player.specs.Reading.{Came}
use Rattle.ll_player.proofs.player.receive.Goals as goal

pub returns-clause-fed : goal.returns-clause-fed
returns-clause-fed g c = Came (take c.in-Ok.count c.read.new.buf) refl (c.in-Ok.ensures.more (omega arith)) c.in_ok-feed.ensures.ok

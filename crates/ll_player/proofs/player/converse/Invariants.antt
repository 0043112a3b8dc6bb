-- Each read so far gave bytes; the session hasn't shut; and the connection goes on.
use Rattle.std.specs.Prelude.{◌≡◌, None, false}
use Rattle.ll_player.specs.Playing.{moment}
use Rattle.ll_player.specs.Reading.{IsDrained}
use Rattle.ll_player.specs.Steps.{PlaysOn}
use Rattle.ll_service.specs.Reads.{IsReadThrough}
use Rattle.ll_player.proofs.player.converse.Given as goal

abbrev pub invariant-loop : goal.invariant-loop
invariant-loop g l = record {
  steady : g.P.Writer.failures l.link ≡ g.P.Writer.failures l.fn.link;
  read : IsReadThrough (g.P.Writer.inward l.fn.link) (g.P.Writer.inward l.link) l.counter;
  unshut : l.fn.session.shut ≡ false → l.session.shut ≡ false;
  plays : l.fn.session.shut ≡ false → PlaysOn (g.C.Clock.shows l.fn.service.clock.now) l.fn.service.hub.now
      (moment (g.P.Writer.inward l.fn.link) (g.P.Writer.written l.fn.link) l.fn.session None l.fn.pass)
      (moment (g.P.Writer.inward l.link) (g.P.Writer.written l.link) l.session None l.pass);
  drained : IsDrained l.fn.session → IsDrained l.session;
}

-- The link was not read, and nothing has failed; and the connection goes on.
use Rattle.std.specs.Prelude.{◌≡◌, None}
use Rattle.ll_player.specs.Playing.{moment}
use Rattle.ll_player.specs.Steps.{PlaysOn}
use Rattle.ll_player.proofs.player.answer.Given as goal

abbrev pub invariant-loop : goal.invariant-loop
invariant-loop g l = record {
  steady : g.P.Writer.failures l.link ≡ g.P.Writer.failures l.fn.link;
  unread : g.P.Writer.inward l.link ≡ g.P.Writer.inward l.fn.link;
  plays : PlaysOn (g.C.Clock.shows l.fn.service.clock.now) l.fn.service.hub.now
      (moment (g.P.Writer.inward l.fn.link) (g.P.Writer.written l.fn.link) l.fn.session None l.fn.pass)
      (moment (g.P.Writer.inward l.link) (g.P.Writer.written l.link) l.session None l.pass);
}

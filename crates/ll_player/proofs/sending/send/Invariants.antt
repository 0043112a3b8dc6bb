-- The bytes before what is left were sent, no write has failed, and nothing was read.
use Rattle.std.specs.Prelude.{◌≡◌}
use Rattle.ll_player.specs.Sending.{HasSent}
use Rattle.ll_player.proofs.sending.send.Given as goal

abbrev pub invariant-loop : goal.invariant-loop
invariant-loop g l = record {
  steady : g.P.Writer.failures l.link ≡ g.P.Writer.failures l.fn.link;
  unread : g.P.Writer.inward l.link ≡ g.P.Writer.inward l.fn.link;
  sent : HasSent (g.P.Writer.written l.fn.link) l.fn.session (g.P.Writer.written l.link) l.session;
}

-- The link was not read, and nothing has failed; the claim is the same, and the pass has seen nothing more.
use Rattle.std.specs.Prelude.{◌≡◌}
use Rattle.ll_player.proofs.player.wait.Given as goal

abbrev pub invariant-loop : goal.invariant-loop
invariant-loop g l = record {
  steady : g.P.Writer.failures l.link ≡ g.P.Writer.failures l.fn.link;
  unread : g.P.Writer.inward l.link ≡ g.P.Writer.inward l.fn.link;
  unwritten : g.P.Writer.written l.link ≡ g.P.Writer.written l.fn.link;
  claim : l.held.claim ≡ l.fn.held.claim;
  hub : l.held.hub.now ≡ l.fn.held.hub.now;
  pass : l.pass ≡ l.fn.pass;
}

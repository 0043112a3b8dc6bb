-- The messages that were sent and accepted are the first of those that come, and those after them are left.
use Rattle.std.proofs.Common.{◌≡◌, List, Some}
use Rattle.ll_announce.specs.Messages.{MessageValue}
use Rattle.ll_push.specs.Exchanges.{link_value}
use Rattle.ll_pair.proofs.SentLemmas.{SoFar}
use Rattle.ll_pair.proofs.progress.Progress.send_on.Given as goal

abbrev pub invariant-loop : goal.invariant-loop
invariant-loop g l =
    (messages : List MessageValue) → g.M.Coming.coming l.fn.coming ≡ Some messages
    → SoFar l.fn.self messages (link_value g.P.Writer.written g.P.Writer.inward g.P.Writer.failures l.fn.link) l.self (g.M.Coming.coming l.coming)
    (link_value g.P.Writer.written g.P.Writer.inward g.P.Writer.failures l.link) l.accepted l.counter

-- All connections so far were lost, and not too many in a row had nothing accepted.
use Rattle.std.proofs.Common.{◌≡◌, ◌≤◌, List, Some}
use Rattle.ll_announce.specs.Meaning.{named}
use Rattle.ll_announce.specs.Messages.{MessageValue}
use Rattle.ll_push.specs.Exchanges.{link_value}
use Rattle.ll_pair.specs.History.{task}
use Rattle.ll_pair.proofs.HistoryLemmas.{Gone_on}
use Rattle.ll_pair.proofs.carrying.carry.Given as goal

abbrev pub invariant-loop : goal.invariant-loop
invariant-loop g l = record {
  went : (messages : List MessageValue) → g.M.Coming.coming l.fn.coming ≡ Some messages
      → Gone_on (task g.S.Source.next_gives (link_value g.S.Peer.Writer.written g.S.Peer.Writer.inward g.S.Peer.Writer.failures) l.fn.tries (named l.fn.names) l.fn.place messages l.fn.origin)
      l.progress (g.M.Coming.coming l.coming) l.origin l.idle l.counter;
  few : l.idle ≤ l.fn.tries;
  least : l.idle ≤ l.counter;
}

-- All connections so far were lost, not too many in a row had nothing accepted, and nothing has failed.
use Rattle.std.proofs.Common.{◌≡◌, ◌≤◌, Some}
use Rattle.ll_push.specs.Exchanges.{link_value}
use Rattle.ll_push.specs.History.{task}
use Rattle.ll_push.specs.Meaning.{targeted}
use Rattle.ll_push.specs.Publishing.{Ahead, told_ahead}
use Rattle.ll_push.proofs.HistoryLemmas.{Went}
use Rattle.ll_push.proofs.connections.Publisher.publish_at.Given as goal

abbrev pub invariant-loop : goal.invariant-loop
invariant-loop g l = record {
  went : (ahead : Ahead) → told_ahead (g.R.Reader.left l.fn.source) (g.C.Calendar.coming l.fn.clock) ≡ Some ahead
      → Went (task g.S.Source.next_gives (link_value g.S.Peer.Writer.written g.S.Peer.Writer.inward g.S.Peer.Writer.failures) l.fn.tries (targeted l.fn.target) ahead l.fn.origin)
      l.self (told_ahead (g.R.Reader.left l.source) (g.C.Calendar.coming l.clock)) l.origin l.idle l.counter;
  later : g.R.Reader.reads l.fn.source ≤ g.R.Reader.reads l.source;
  few : l.idle ≤ l.fn.tries;
  least : l.idle ≤ l.counter;
  steady : g.R.Reader.failures l.source ≡ g.R.Reader.failures l.fn.source;
  calm : g.C.Calendar.failures l.clock ≡ g.C.Calendar.failures l.fn.clock;
}

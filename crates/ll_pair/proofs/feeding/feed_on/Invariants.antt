-- The messages that were given are the first of those that are to be sent, and nothing has failed.
use Rattle.std.proofs.Common.{◌≡◌, ◌≤◌, List, Some}
use Rattle.ll_announce.specs.Messages.{MessageValue}
use Rattle.ll_push.specs.Meaning.{targeted}
use Rattle.ll_push.specs.Publishing.{Ahead, at_start, told_ahead}
use Rattle.ll_pair.proofs.FedLemmas.{Fed_so_far}
use Rattle.ll_pair.proofs.feeding.feed_on.Given as goal

abbrev pub invariant-loop : goal.invariant-loop
invariant-loop g l = record {
  fed : (ahead : Ahead) (before : List MessageValue) → told_ahead (g.R.Reader.left l.fn.source) (g.C.Calendar.coming l.fn.clock) ≡ Some ahead → g.O.Outlets.given l.fn.outlets ≡ Some before
      → Fed_so_far (targeted l.fn.target) (at_start (targeted l.fn.target) l.fn.standing) ahead before l.publication
      (told_ahead (g.R.Reader.left l.source) (g.C.Calendar.coming l.clock)) (g.O.Outlets.given l.outlets) l.counter;
  later : g.R.Reader.reads l.fn.source ≤ g.R.Reader.reads l.source;
  steady : g.R.Reader.failures l.source ≡ g.R.Reader.failures l.fn.source;
  calm : g.C.Calendar.failures l.clock ≡ g.C.Calendar.failures l.fn.clock;
}

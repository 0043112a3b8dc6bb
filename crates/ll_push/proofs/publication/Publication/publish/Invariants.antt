-- The messages that were sent and accepted are the first of those that were to be sent, and nothing has failed.
use Rattle.std.proofs.Common.{◌≡◌, ◌≤◌, Some}
use Rattle.ll_push.specs.Exchanges.{link_value}
use Rattle.ll_push.specs.Meaning.{targeted}
use Rattle.ll_push.specs.Publishing.{Ahead, told_ahead}
use Rattle.ll_push.proofs.StepLemmas.{SoFar}
use Rattle.ll_push.proofs.publication.Publication.publish.Given as goal

abbrev pub invariant-loop : goal.invariant-loop
invariant-loop g l = record {
  goes : (ahead : Ahead) → told_ahead (g.R.Reader.left l.fn.source) (g.C.Calendar.coming l.fn.clock) ≡ Some ahead
      → SoFar (targeted l.fn.target) l.fn.self ahead (link_value g.P.Writer.written g.P.Writer.inward g.P.Writer.failures l.fn.link) l.self
      (told_ahead (g.R.Reader.left l.source) (g.C.Calendar.coming l.clock)) (link_value g.P.Writer.written g.P.Writer.inward g.P.Writer.failures l.link) l.accepted l.counter;
  later : g.R.Reader.reads l.fn.source ≤ g.R.Reader.reads l.source;
  steady : g.R.Reader.failures l.source ≡ g.R.Reader.failures l.fn.source;
  calm : g.C.Calendar.failures l.clock ≡ g.C.Calendar.failures l.fn.clock;
}

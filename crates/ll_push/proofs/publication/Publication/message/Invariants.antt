-- What is to be sent is what was to be sent before, and nothing has failed.
use Rattle.std.proofs.Common.{◌≡◌, ◌+◌, Some}
use Rattle.ll_push.specs.Meaning.{targeted}
use Rattle.ll_push.specs.Next.{IsSame}
use Rattle.ll_push.specs.Publishing.{Ahead, told_ahead}
use Rattle.ll_push.proofs.publication.Publication.message.Given as goal

abbrev pub invariant-loop : goal.invariant-loop
invariant-loop g l = record {
  same : (ahead : Ahead) → told_ahead (g.R.Reader.left l.fn.source) (g.C.Calendar.coming l.fn.clock) ≡ Some ahead
      → IsSame (targeted l.fn.target) l.fn.self ahead l.self (told_ahead (g.R.Reader.left l.source) (g.C.Calendar.coming l.clock));
  reads : g.R.Reader.reads l.source ≡ g.R.Reader.reads l.fn.source + l.counter;
  steady : g.R.Reader.failures l.source ≡ g.R.Reader.failures l.fn.source;
  calm : g.C.Calendar.failures l.clock ≡ g.C.Calendar.failures l.fn.clock;
}

-- The link was not read, and nothing has failed; each line that was given was answered once.
use Rattle.std.specs.Prelude.{◌≡◌, ℕ, List, Option}
use Rattle.ll_publisher.specs.Doors.{origin}
use Rattle.ll_publisher.specs.Publishing.{Caller, caller}
use Rattle.ll_publisher.specs.Serving.{IsServing}
use Rattle.ll_publisher.proofs.publisher.answer.Given as goal

abbrev pub invariant-loop : goal.invariant-loop
invariant-loop g l = record {
  steady : g.P.Writer.failures l.link ≡ g.P.Writer.failures l.fn.link;
  unread : g.P.Writer.inward l.link ≡ g.P.Writer.inward l.fn.link;
  serving : (taken : List ℕ) (start : Caller) (base : Option (List ℕ))
      → IsServing (origin l.fn.service.hub.now l.fn.service.secrets.now) taken l.fn.feed start (caller l.fn.pass l.fn.opened.items) base (g.P.Writer.written l.fn.link)
      → IsServing (origin l.fn.service.hub.now l.fn.service.secrets.now) taken l.feed start (caller l.pass l.opened.items) base (g.P.Writer.written l.link);
}

-- Each read so far gave bytes, and each whole line of them was answered once.
use Rattle.std.specs.Prelude.{◌≡◌, ℕ, List}
use Rattle.ll_device.specs.Inward.{looked_at}
use Rattle.ll_publisher.specs.Doors.{origin}
use Rattle.ll_publisher.specs.Publishing.{caller, newcomer}
use Rattle.ll_publisher.specs.Serving.{IsDrained}
use Rattle.ll_publisher.proofs.publisher.read_all.Given as goal

abbrev pub invariant-loop : goal.invariant-loop
invariant-loop g l = record {
  steady : g.P.Writer.failures l.link ≡ g.P.Writer.failures l.fn.link;
  taken : List ℕ;
  read : g.P.Writer.inward l.link ≡ looked_at l.counter 0 taken (g.P.Writer.inward l.fn.link);
  drained : IsDrained (origin l.fn.service.hub.now l.fn.service.secrets.now) taken l.feed (newcomer l.fn.pass) (caller l.pass l.opened.items)
      (g.P.Writer.written l.fn.link) (g.P.Writer.written l.link);
}

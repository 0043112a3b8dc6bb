-- Each channel so far took the reading, and the bell was rung once for it, in order.
use mathlib.Core.List.{IsPrefix}
use Rattle.ll_hub.specs.Calls.{AreTicked}
use Rattle.ll_hub.specs.Rung.{IsRungFrom}
use Rattle.ll_hub.proofs.hub.Hub.tick_from.Given as goal

abbrev pub invariant-loop-channel : goal.invariant-loop-channel
invariant-loop-channel g l = record {
  rung : IsRungFrom l.first l.channel (g.B.Bell.rung l.fn.bell) (g.B.Bell.rung l.bell);
  ticked : AreTicked l.fn.past l.past l.first l.channel l.ms;
  grows : IsPrefix l.fn.past l.past;
}

-- Each that was taken is kept, as it came.
use Rattle.std.specs.Prelude.{◌≡◌, length, replicate}
use Rattle.ll_hub.specs.Passes.{new_pass}
use Rattle.ll_service.proofs.passes.seats.Given as goal

abbrev pub invariant-loop : goal.invariant-loop
invariant-loop g l = l.passes.items ≡ replicate l.counter (new_pass (length l.fn.hub))

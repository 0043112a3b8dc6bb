-- There is a bell for each poller so far.
use Rattle.std.specs.Prelude.{◌≡◌, vec_len}
use Rattle.ll_pollers.proofs.bells.Bells.new.Given as goal

abbrev pub invariant-loop : goal.invariant-loop
invariant-loop g l = vec_len l.each ≡ l.counter

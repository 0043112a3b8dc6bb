-- Nothing has happened.
use Rattle.std.proofs.Common.{subst, ◌≤◌}
use Rattle.ll_room.proofs.KeptLemmas.{kept-new}
use Rattle.ll_room.proofs.room.Room.new.Goals as goal

pub invariant_of-result : goal.invariant_of-result
invariant_of-result c =
    kept-new c.args.channel c.args.settings _ c.new-2.result c.in_ok-new.ensures (subst (λ n. 1 ≤ n) c.target.ensures.value c.target.ensures.low) c.within_limits.ensures c.new-2.ensures

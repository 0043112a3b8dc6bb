-- One box more.
use Rattle.std.proofs.Common.{◌∙◌}
use Rattle.ll_shift.specs.Moved.{moved_box}
use Rattle.ll_shift.proofs.PieceLemmas.{each_step}
use Rattle.ll_shift.proofs.moved.push_moved.Goals as goal

pub boxes-preserved : goal.boxes-preserved
boxes-preserved c =
    c.boxes.invariant
    ∙ each_step (moved_box c.args.shift.now c.args.scales.now) c.boxes.rest.now _ c.boxes.out.items _ c.in-Some.ensures.told c.in_ok-push_box.ensures

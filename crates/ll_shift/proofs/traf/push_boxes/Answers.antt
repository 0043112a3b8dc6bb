-- One box more.
use Rattle.std.proofs.Common.{◌∙◌}
use Rattle.ll_shift.specs.Moved.{moved_in_traf}
use Rattle.ll_shift.proofs.PieceLemmas.{each_step}
use Rattle.ll_shift.proofs.traf.push_boxes.Goals as goal

pub boxes-preserved : goal.boxes-preserved
boxes-preserved c =
    c.boxes.invariant
    ∙ each_step (moved_in_traf c.args.shift.now c.args.scale c.args.more) c.boxes.rest.now _ c.boxes.out.items _ c.in-Some.ensures.told c.in_ok-push_box.ensures

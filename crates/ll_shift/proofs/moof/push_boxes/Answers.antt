-- One box more.
use Rattle.std.proofs.Common.{◌∙◌}
use Rattle.ll_shift.proofs.PieceLemmas.{turn_step}
use Rattle.ll_shift.proofs.moof.push_boxes.Goals as goal

pub boxes-preserved : goal.boxes-preserved
boxes-preserved c =
    rw c.still_first-first.ensures
    (c.boxes.invariant
    ∙ turn_step c.args.shift.now c.args.scales.now c.args.more c.boxes.first c.boxes.rest.now _ c.boxes.out.items _ c.in-Some.ensures.told c.in_ok-push_box.ensures)

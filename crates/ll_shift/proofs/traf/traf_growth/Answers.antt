-- One box more.
use Rattle.std.proofs.Common.{arith, ◌∙◌}
use Rattle.ll_shift.specs.Moved.{box_growth}
use Rattle.ll_shift.proofs.PieceLemmas.{total_step}
use Rattle.ll_shift.proofs.traf.traf_growth.Goals as goal

pub boxes-preserved : goal.boxes-preserved
boxes-preserved c = record {
  same =
      c.boxes.invariant.same
      ∙ total_step (box_growth c.args.shift.now c.scale_in-scale.result) c.boxes.rest.now _ c.boxes.sum _ c.in-Some.ensures.told c.box_growth-sum.ensures.told;
  few = omega (arith, c.boxes.invariant.few, c.in-Some.ensures.sum, c.in-Some.ensures.proper.full, c.box_growth-sum.ensures.few);
}

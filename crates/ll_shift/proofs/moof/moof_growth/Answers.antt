-- One box more.
use Rattle.std.proofs.Common.{arith, ◌∙◌}
use Rattle.ll_shift.specs.Moved.{growth_in_moof}
use Rattle.ll_shift.proofs.PieceLemmas.{total_step}
use Rattle.ll_shift.proofs.moof.moof_growth.Goals as goal

pub boxes-preserved : goal.boxes-preserved
boxes-preserved c = record {
  same =
      c.boxes.invariant.same
      ∙ total_step (growth_in_moof c.args.shift.now c.args.scales.now) c.boxes.rest.now _ c.boxes.sum _ c.in-Some.ensures.told c.box_growth-sum.ensures.told;
  few = omega (arith, c.boxes.invariant.few, c.in-Some.ensures.sum, c.box_growth-sum.ensures.few);
}

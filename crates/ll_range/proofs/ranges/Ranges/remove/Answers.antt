-- The test is the refusal after the items, and the removal is the step from them.
use Rattle.ll_range.proofs.Steps.{free-unrange}
use Rattle.ll_range.proofs.ranges.Ranges.remove.Goals as goal

pub returns-in-Ok-clause-accepted : goal.returns-in-Ok-clause-accepted
returns-in-Ok-clause-accepted c = λ conf items rendition e t. (
  free-unrange conf items c.args.id.now c.args.self.now e c.in_default.ensures,
  c.in-Ok.ensures.accepted conf items rendition e t,
)

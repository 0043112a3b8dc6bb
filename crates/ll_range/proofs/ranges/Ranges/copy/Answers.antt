-- Another handle of the date ranges has the same value, and so does a clone of the removals.
use Rattle.std.proofs.Common.{◌∙◌}
use Rattle.ll_range.proofs.Copies.{copied_recent, same_told}
use Rattle.ll_range.proofs.ranges.Ranges.copy.Goals as goal

pub returns : goal.returns
returns c =
    same_told c.self.inside.limit _ _ _ _
    c.in_ok-again.ensures
    (copied_recent c.self.inside.recent.entries c.in_ok-clone.field-0.entries c.in_ok-clone.ensures.cases)
    ∙ c.self.view_is

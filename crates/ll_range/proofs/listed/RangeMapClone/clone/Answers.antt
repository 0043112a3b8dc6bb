-- Clones have the same value.
use Rattle.std.proofs.Common.{◌∙◌}
use Rattle.ll_range.proofs.Copies.{copied_listed}
use Rattle.ll_range.proofs.listed.RangeMapClone.clone.Goals as goal

pub returns : goal.returns
returns c = record {
  cases =
      copied_listed c.self.inside.entries.entries c.in_ok-clone.field-0.entries c.in_ok-clone.ensures.cases
      ∙ c.self.view_is;
}

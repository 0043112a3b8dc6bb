-- The invariant of a date range's attributes is that of the item.
use Rattle.std.proofs.Common.{OnOk, subst, sym}
use Rattle.ll_item.specs.ItemLines.{HasAttributes}
use Rattle.ll_item.proofs.item.Item.push_line.Goals as goal

pub returns-in-Range-clause-spelled : goal.returns-in-Range-clause-spelled
returns-in-Range-clause-spelled c = subst (λ i. OnOk c.push_range.result (HasAttributes i)) (sym c.in-Range.is) c.push_range.ensures.spelled

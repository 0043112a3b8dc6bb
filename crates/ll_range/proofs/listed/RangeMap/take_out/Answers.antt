-- What is left has no such key, so only the date ranges of other ids.
use Rattle.std.proofs.Common.{ap, ◌∙◌}
use Rattle.ll_item.specs.Told.{others}
use Rattle.ll_range.proofs.Entries.{listed_left}
use Rattle.ll_range.proofs.listed.RangeMap.take_out.Goals as goal

pub returns : goal.returns
returns c =
    listed_left c.args.id.now c.self.inside.entries.entries _ c.shift_remove.ensures.entries c.shift_remove.ensures.updates.1
    ∙ ap (others c.args.id.now) c.self.view_is

-- A list whose text begins with a quoted ID spells a date range, unless memory runs out.
use Rattle.std.proofs.Common.{ap, Err}
use Rattle.ll_item.proofs.RangeLines.{begins_with_id}
use Rattle.ll_item.proofs.item_line.range_from.Goals as goal

pub returns-in-Some-clause-memory : goal.returns-in-Some-clause-memory
returns-in-Some-clause-memory c e =
    begins_with_id c.args.rendition c.args.text.now c.in-Some.field-0.now (c.in-Err-Memory.ensures.memory (ap Err c.in-Err-Memory.field-0-is)) c.in-Some.ensures

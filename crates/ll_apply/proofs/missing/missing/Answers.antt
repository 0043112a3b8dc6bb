-- The numbers asked for begin within the playlist: they end within it, or the first one past it is missing.
use Rattle.ll_apply.proofs.OutlineLemmas.{none-missing, past-missing}
use Rattle.ll_apply.proofs.missing.missing.Goals as goal

pub returns-then-count-left : goal.returns-then-count-left
returns-then-count-left c p e =
    none-missing p c.args.base c.args.from c.args.count e c.if-from-base.false c.if-segments-from.false c.if-count-left.true

pub returns-else-count-left : goal.returns-else-count-left
returns-else-count-left c p e =
    past-missing p c.args.base c.args.from c.args.count e c.if-from-base.false c.if-segments-from.false c.if-count-left.false

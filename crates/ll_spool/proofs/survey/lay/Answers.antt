-- First there is room, and then the item is added.
use Rattle.ll_spool.proofs.LayoutLemmas.{laid_by}
use Rattle.ll_spool.proofs.survey.lay.Goals as goal

pub returns : goal.returns
returns c = laid_by c.args.count c.args.item.now c.args.layout.now c.make_ready.new.layout c.add.new.self c.in_ok-make_ready.ensures c.in_ok-add.ensures.added c.in_ok-add.ensures.window

-- What the deque gives at a place.
use Rattle.ll_window.proofs.ReaderLemmas.{item_at}
use Rattle.ll_window.proofs.finished.Finished.row.Goals as goal

pub returns : goal.returns
returns c = item_at _ c.args.place c.get.result c.get.ensures.item

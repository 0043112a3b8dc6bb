-- A text is cut at its last space.
use Rattle.ll_item.proofs.LastWord.{cut, cut-found}
use Rattle.ll_item.proofs.item_bytes.cut_last.Goals as goal

pub returns : goal.returns
returns c = cut-found c.args.line.now c.rsplit_once.result (cut c.args.line.now c.rsplit_once.result c.rsplit_once.ensures.cases)

-- The law has a file of its own.
use Rattle.ll_entry.proofs.ItemBack.{item_back}
use Rattle.ll_entry.proofs.laws.item_law.Goals as goal

pub returns : goal.returns
returns c = item_back

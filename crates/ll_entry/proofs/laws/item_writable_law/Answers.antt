-- The law has a lemma of its own.
use Rattle.ll_entry.proofs.WritableProof.{item-writable}
use Rattle.ll_entry.proofs.laws.item_writable_law.Goals as goal

pub returns : goal.returns
returns c = item-writable

-- Nothing that a record says of a channel depends on bytes.
use Rattle.ll_entry.proofs.BlankLemmas.{fault-blank}
use Rattle.ll_entry.proofs.laws.blank_law.Goals as goal

pub returns : goal.returns
returns c = fault-blank

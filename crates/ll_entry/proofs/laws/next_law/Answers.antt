-- The law has a lemma of its own.
use Rattle.ll_entry.proofs.LeadLemmas.{next}
use Rattle.ll_entry.proofs.laws.next_law.Goals as goal

pub returns : goal.returns
returns c = next

-- The law has a lemma of its own.
use Rattle.ll_entry.proofs.LeadLemmas.{entry-next}
use Rattle.ll_entry.proofs.laws.entry_next_law.Goals as goal

pub returns : goal.returns
returns c = entry-next

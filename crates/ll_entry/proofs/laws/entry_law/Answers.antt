-- Each kind of entry is read again.
use Rattle.ll_entry.proofs.EntryLines.{read_again}
use Rattle.ll_entry.proofs.laws.entry_law.Goals as goal

pub returns : goal.returns
returns c = read_again

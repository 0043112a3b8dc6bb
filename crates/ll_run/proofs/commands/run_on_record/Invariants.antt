-- The ledgers of the counts are those of the blanks.
use Rattle.ll_run.proofs.commands.run_on_record.Given as goal

abbrev pub ghosts-check : goal.ghosts-check
ghosts-check g a = record { name = a.reads.name; parts = a.reads.parts }

abbrev pub ghosts-upgrade-L-Ledger : goal.ghosts-upgrade-L-Ledger
ghosts-upgrade-L-Ledger g a = record { name = a.reads.name; parts = a.reads.parts }

abbrev pub ghosts-upgrade-M-Ledger : goal.ghosts-upgrade-M-Ledger
ghosts-upgrade-M-Ledger g a = record { name = a.further.name; parts = a.further.parts }

abbrev pub ghosts-summarize : goal.ghosts-summarize
ghosts-summarize g a = record { name = a.reads.name; parts = a.reads.parts }

abbrev pub ghosts-explain : goal.ghosts-explain
ghosts-explain g a = record { name = a.reads.name; parts = a.reads.parts }

-- The ledgers of the reads and of the clock's readings are those of the blanks.
use Rattle.ll_run.proofs.commands.publish_input.Given as goal

abbrev pub ghosts-publish-L-Ledger : goal.ghosts-publish-L-Ledger
ghosts-publish-L-Ledger a = record { name = a.reads.name; parts = a.reads.parts }

abbrev pub ghosts-publish-M-Ledger : goal.ghosts-publish-M-Ledger
ghosts-publish-M-Ledger a = record { name = a.times.name; parts = a.times.parts }

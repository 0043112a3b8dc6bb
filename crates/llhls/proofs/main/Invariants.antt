-- The ledgers of the reads and of the clock's readings are those of the blanks.
use Rattle.llhls.proofs.main.Given as goal

abbrev pub ghosts-publish_job-L-Ledger : goal.ghosts-publish_job-L-Ledger
ghosts-publish_job-L-Ledger bounds a = record { name = a.reads.name; parts = a.reads.parts }

abbrev pub ghosts-publish_job-M-Ledger : goal.ghosts-publish_job-M-Ledger
ghosts-publish_job-M-Ledger bounds a = record { name = a.times.name; parts = a.times.parts }

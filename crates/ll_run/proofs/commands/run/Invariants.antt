-- The ledger of the counts is that of the blank.
use Rattle.ll_run.proofs.commands.run.Given as goal

abbrev pub ghosts-replay : goal.ghosts-replay
ghosts-replay g a = record { name = a.reads.name; parts = a.reads.parts }

-- The ledger of the counts is that of the blank.
use Rattle.ll_run.proofs.commands.called.Given as goal

abbrev pub ghosts-run_writing : goal.ghosts-run_writing
ghosts-run_writing a = record { name = a.writes.name; parts = a.writes.parts }

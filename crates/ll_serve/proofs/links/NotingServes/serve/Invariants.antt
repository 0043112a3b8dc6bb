-- The ledger of a connection's reads is that of the blank.
use Rattle.ll_serve.proofs.links.NotingServes.serve.Given as goal

abbrev pub ghosts-serve_counted : goal.ghosts-serve_counted
ghosts-serve_counted g a = record { name = a.blank.name; parts = a.blank.parts }

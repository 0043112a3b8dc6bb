-- The ledgers are those of the blanks, for the number of channels.
use Rattle.std.specs.Prelude.{length}
use Rattle.ll_server.proofs.server.serve_channels.Given as goal

abbrev pub ghosts-host-L-Named : goal.ghosts-host-L-Named
ghosts-host-L-Named g a = record { names = a.blanks }

abbrev pub ghosts-host-L-Ledgers : goal.ghosts-host-L-Ledgers
ghosts-host-L-Ledgers g a = record { channels = length a.channels.items }

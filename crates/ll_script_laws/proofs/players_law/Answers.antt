-- The law has a file of its own.
use Rattle.ll_script_laws.proofs.LawProofs.{players}
use Rattle.ll_script_laws.proofs.players_law.Goals as goal

pub returns : goal.returns
returns c = players

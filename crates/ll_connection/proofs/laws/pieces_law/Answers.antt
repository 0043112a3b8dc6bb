-- The laws have a file of their own.
use Rattle.ll_connection.proofs.CutLemmas.{pieces, turns}
use Rattle.ll_connection.proofs.laws.pieces_law.Goals as goal

pub returns-clause-visits : goal.returns-clause-visits
returns-clause-visits c = pieces

pub returns-clause-turns : goal.returns-clause-turns
returns-clause-turns c = turns

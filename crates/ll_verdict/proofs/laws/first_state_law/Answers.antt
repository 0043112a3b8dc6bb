-- The law is a lemma of its own.
use Rattle.ll_verdict.proofs.LawProofs.{first_state}
use Rattle.ll_verdict.proofs.laws.first_state_law.Goals as goal

pub returns : goal.returns
returns c = first_state

-- The law is a lemma of its own.
use Rattle.ll_verdict.proofs.StateLemmas.{state-snoc}
use Rattle.ll_verdict.proofs.laws.state_law.Goals as goal

pub returns : goal.returns
returns c = state-snoc

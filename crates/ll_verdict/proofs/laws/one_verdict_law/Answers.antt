-- The law is a lemma of its own.
use Rattle.ll_verdict.proofs.LawProofs.{one_verdict}
use Rattle.ll_verdict.proofs.laws.one_verdict_law.Goals as goal

pub returns : goal.returns
returns c = one_verdict

-- The law is a lemma.
use Rattle.ll_explain.proofs.UpgradeProof.{same_in_two}
use Rattle.ll_explain.proofs.laws.upgrade_law.Goals as goal

pub returns : goal.returns
returns c = same_in_two

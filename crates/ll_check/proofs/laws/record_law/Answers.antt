-- The law has a lemma for either direction.
use Rattle.ll_check.proofs.Back.{found_right}
use Rattle.ll_check.proofs.Walk.{is_record}
use Rattle.ll_check.proofs.laws.record_law.Goals as goal

pub returns : goal.returns
returns c = λ text n. (is_record text n, found_right text n)

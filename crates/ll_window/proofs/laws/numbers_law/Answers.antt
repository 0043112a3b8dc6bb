-- The law is a lemma of its own.
use Rattle.ll_window.proofs.NumberLemmas.{numbers-law}
use Rattle.ll_window.proofs.laws.numbers_law.Goals as goal

pub returns : goal.returns
returns c = numbers-law

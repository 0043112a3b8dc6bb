-- The law is a lemma of its own.
use Rattle.ll_window.proofs.WantLemmas.{wants-law}
use Rattle.ll_window.proofs.laws.wants_law.Goals as goal

pub returns : goal.returns
returns c = wants-law

-- The law is a lemma of its own.
use Rattle.ll_window.proofs.SuffixLemmas.{window-law}
use Rattle.ll_window.proofs.laws.window_law.Goals as goal

pub returns : goal.returns
returns c = window-law

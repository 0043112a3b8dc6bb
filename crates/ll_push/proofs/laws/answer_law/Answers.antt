-- Digits, letters and spaces are no LF.
use Rattle.ll_push.proofs.LineLemmas.{accepts-apart, accepts-inside, refuses-inside}
use Rattle.ll_push.proofs.laws.answer_law.Goals as goal

pub returns-clause-lines : goal.returns-clause-lines
returns-clause-lines c line = (accepts-inside line, refuses-inside line)

pub returns-clause-apart : goal.returns-clause-apart
returns-clause-apart c = accepts-apart

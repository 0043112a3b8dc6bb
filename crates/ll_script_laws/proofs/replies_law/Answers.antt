-- The laws have a file of their own.
use Rattle.ll_script_laws.proofs.ReplyLemmas.{at-once, later, verdicts}
use Rattle.ll_script_laws.proofs.replies_law.Goals as goal

pub returns-clause-at_once : goal.returns-clause-at_once
returns-clause-at_once c = at-once

pub returns-clause-later : goal.returns-clause-later
returns-clause-later c = later

pub returns-clause-verdicts : goal.returns-clause-verdicts
returns-clause-verdicts c = verdicts

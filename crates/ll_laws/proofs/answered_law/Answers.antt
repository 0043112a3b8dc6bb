-- The law has a file of its own.
use Rattle.ll_laws.proofs.AnsweredProof.{accepted, not_kept, refused, standing_read}
use Rattle.ll_laws.proofs.answered_law.Goals as goal

pub returns-clause-accepted : goal.returns-clause-accepted
returns-clause-accepted c = accepted

pub returns-clause-not_kept : goal.returns-clause-not_kept
returns-clause-not_kept c = not_kept

pub returns-clause-refused : goal.returns-clause-refused
returns-clause-refused c = refused

pub returns-clause-standing : goal.returns-clause-standing
returns-clause-standing c = standing_read

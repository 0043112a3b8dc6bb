-- The laws of connections.
use Rattle.ll_session.proofs.PastLemmas.{is_talk}
use Rattle.ll_session.proofs.ShutLemmas.{has_shut}
use Rattle.ll_session.proofs.SplitLemmas.{none_is_left}
use Rattle.ll_session.proofs.laws.session_law.Goals as goal

pub returns-clause-talk : goal.returns-clause-talk
returns-clause-talk c = is_talk

pub returns-clause-none_left : goal.returns-clause-none_left
returns-clause-none_left c = none_is_left

pub returns-clause-unmuted : goal.returns-clause-unmuted
returns-clause-unmuted c = has_shut

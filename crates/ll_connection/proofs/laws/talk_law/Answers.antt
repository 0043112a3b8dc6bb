-- The law has a file of its own.
use Rattle.ll_connection.proofs.TalkLemmas.{talk}
use Rattle.ll_connection.proofs.laws.talk_law.Goals as goal

pub returns : goal.returns
returns c = talk

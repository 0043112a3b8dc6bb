-- What was sent.
use Rattle.ll_player.proofs.ConversationLemmas.{begins-to-converse, conversed, converses}
use Rattle.ll_player.proofs.laws.conversation_law.Goals as goal

pub returns-clause-whole : goal.returns-clause-whole
returns-clause-whole g c = converses _

pub returns-clause-steps : goal.returns-clause-steps
returns-clause-steps g c = conversed _

pub returns-clause-prefix : goal.returns-clause-prefix
returns-clause-prefix g c = begins-to-converse _

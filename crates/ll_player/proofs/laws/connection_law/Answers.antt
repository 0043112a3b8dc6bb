-- What leads from one step to the next.
use Rattle.ll_player.proofs.ConversationLemmas.{hangs-up, opens, shares, shuts, stops}
use Rattle.ll_player.proofs.laws.connection_law.Goals as goal

pub returns-clause-opens : goal.returns-clause-opens
returns-clause-opens g c = opens _

pub returns-clause-shares : goal.returns-clause-shares
returns-clause-shares g c = shares _

pub returns-clause-hangs_up : goal.returns-clause-hangs_up
returns-clause-hangs_up g c = hangs-up _

pub returns-clause-shuts : goal.returns-clause-shuts
returns-clause-shuts g c = shuts _

pub returns-clause-stops : goal.returns-clause-stops
returns-clause-stops g c = stops _

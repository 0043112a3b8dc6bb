-- More bytes change only what is unfinished.
use Rattle.ll_wire.proofs.HeadLemmas.{head-stays, whole-within}
use Rattle.ll_wire.proofs.laws.heads_stay_law.Goals as goal

pub returns : goal.returns
returns c = record { stays = head-stays; within = whole-within }

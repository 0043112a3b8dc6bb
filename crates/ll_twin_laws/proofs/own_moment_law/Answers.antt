-- Of a rendition, items come one at a time too.
use Rattle.ll_twin_laws.proofs.MomentProof.{own-moment}
use Rattle.ll_twin_laws.proofs.own_moment_law.Goals as goal

pub returns : goal.returns
returns c = own-moment

-- What settles a request is the same of its rendition at both.
use Rattle.ll_twin_laws.proofs.OwnProof.{own-reply}
use Rattle.ll_twin_laws.proofs.own_reply_law.Goals as goal

pub returns : goal.returns
returns c = own-reply

-- What settles a request is the same at both.
use Rattle.ll_twin_laws.proofs.ReplyProof.{same-reply}
use Rattle.ll_twin_laws.proofs.same_reply_law.Goals as goal

pub returns : goal.returns
returns c = same-reply

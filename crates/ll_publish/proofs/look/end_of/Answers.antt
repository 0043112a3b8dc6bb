-- What a search for LF found.
use Rattle.ll_publish.proofs.EndLemmas.{end_of-found}
use Rattle.ll_publish.proofs.look.end_of.Goals as goal

pub returns : goal.returns
returns c = end_of-found c.args.bytes.now c.memchr.result c.memchr.ensures

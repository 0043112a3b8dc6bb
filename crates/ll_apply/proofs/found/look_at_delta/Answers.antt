-- What was read is within bounds.
use Rattle.ll_apply.proofs.FoundLemmas.{numbers-read}
use Rattle.ll_apply.proofs.found.look_at_delta.Goals as goal

pub returns-in-Ok-clause-numbers : goal.returns-in-Ok-clause-numbers
returns-in-Ok-clause-numbers c = numbers-read c.args.bytes.now c.in-Ok.found c.in-Ok.ensures.found

-- An answer is cut at its first space.
use Rattle.ll_push.proofs.AnswerLemmas.{of-cut}
use Rattle.ll_push.proofs.answer.halves.Goals as goal

pub returns : goal.returns
returns c = of-cut c.args.text.now c.split_once.result c.split_once.ensures.cases

-- Each turn drops an answer, or is the last.
use Rattle.ll_session.proofs.OutputLemmas.{smaller}
use Rattle.ll_session.proofs.output.Output.drop_front.Goals as goal

pub loop-rest-smaller : goal.loop-rest-smaller
loop-rest-smaller c = smaller _ _ _ _ _ c.in-Some.is c.drop_one-rest.ensures

-- A fault was met, so the input is over.
use Rattle.ll_push.proofs.PieceLemmas.{unit-fault}
use Rattle.ll_push.proofs.publication.take_unit.Goals as goal

pub returns-in-Some-clause-fault : goal.returns-in-Some-clause-fault
returns-in-Some-clause-fault c = unit-fault c.args.cutter.now c.in-Some.fault c.into.result c.fault.result c.fault.ensures.fault c.fault.ensures.over c.in-Some.is c.into.ensures

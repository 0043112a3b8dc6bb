-- The laws.
use Rattle.ll_shift.proofs.LengthLemmas.{sizes_are_told}
use Rattle.ll_shift.proofs.MovedLaws.{one_after_another, others_stand}
use Rattle.ll_shift.proofs.PlainLaws.{only_times_change}
use Rattle.ll_shift.proofs.StillLemmas.{nothing_moves}
use Rattle.ll_shift.proofs.laws.moved_law.Goals as goal

pub returns-clause-runs : goal.returns-clause-runs
returns-clause-runs c = one_after_another

pub returns-clause-others : goal.returns-clause-others
returns-clause-others c = others_stand

pub returns-clause-still : goal.returns-clause-still
returns-clause-still c = nothing_moves

pub returns-clause-sizes : goal.returns-clause-sizes
returns-clause-sizes c = sizes_are_told

pub returns-clause-times : goal.returns-clause-times
returns-clause-times c = only_times_change

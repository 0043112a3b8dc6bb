-- The order of adding is shown in a file of its own.
use Rattle.ll_range.proofs.OrderLemmas.{skipped-first}
use Rattle.ll_range.proofs.laws.skipped_law.Goals as goal

pub returns : goal.returns
returns c = skipped-first

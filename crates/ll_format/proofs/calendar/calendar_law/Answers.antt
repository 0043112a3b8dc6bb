-- The induction over the days is in `NthDate`.
use Rattle.ll_format.proofs.NthDate.{calendar_law}
use Rattle.ll_format.proofs.calendar.calendar_law.Goals as goal

pub returns : goal.returns
returns c = calendar_law

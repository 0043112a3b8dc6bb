use Rattle.ll_line.proofs.LineLaws.{line-laws}
use Rattle.ll_line.proofs.laws.spelled_is_read_law.Goals as goal

pub returns : goal.returns
returns c = line-laws.again

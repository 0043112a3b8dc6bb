use Rattle.ll_line.proofs.LineLaws.{line-laws}
use Rattle.ll_line.proofs.laws.read_is_spelled_law.Goals as goal

pub returns : goal.returns
returns c = line-laws.takes

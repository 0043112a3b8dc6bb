use Rattle.ll_line.proofs.LineLaws.{line-laws}
use Rattle.ll_line.proofs.laws.one_line_law.Goals as goal

pub returns : goal.returns
returns c = line-laws.inside

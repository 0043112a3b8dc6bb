-- The first line ends at the first LF.
use Rattle.ll_check.proofs.LineLemmas.{cut-behind, cut-none, cut-some}
use Rattle.ll_check.proofs.lines.cut_line.Goals as goal

pub returns-in_err-end-clause-parts : goal.returns-in_err-end-clause-parts
returns-in_err-end-clause-parts c = rw (c.from_residual.ensures) (cut-none c.args.bytes.now c.in_err-end.ensures)

pub returns-clause-parts : goal.returns-clause-parts
returns-clause-parts c = cut-some c.args.bytes.now c.in_ok-end.end c.in_ok-end.ensures

pub returns-clause-behind : goal.returns-clause-behind
returns-clause-behind c = cut-behind c.args.bytes.now c.in_ok-end.end c.in_ok-end.ensures.0.high

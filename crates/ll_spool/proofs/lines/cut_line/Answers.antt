-- The first line ends at the first LF.
use Rattle.ll_spool.proofs.LineLemmas.{cut-none, cut-some, cut-text}
use Rattle.ll_spool.proofs.lines.cut_line.Goals as goal

pub returns-in_err-end-clause-lines : goal.returns-in_err-end-clause-lines
returns-in_err-end-clause-lines c = rw (c.from_residual.ensures) (cut-none c.args.text.now c.in_err-end.ensures)

pub returns-clause-lines : goal.returns-clause-lines
returns-clause-lines c = cut-some c.args.text.now c.in_ok-end.end c.in_ok-end.ensures

pub returns-clause-text : goal.returns-clause-text
returns-clause-text c = cut-text c.args.text.now c.in_ok-end.end c.in_ok-end.ensures

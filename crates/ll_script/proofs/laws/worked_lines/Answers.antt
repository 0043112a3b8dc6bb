-- The examples are worked in a file of their own.
use Rattle.ll_script.proofs.WorkedExamples.{answers, lines}
use Rattle.ll_script.proofs.laws.worked_lines.Goals as goal

pub returns-clause-lines : goal.returns-clause-lines
returns-clause-lines c = lines

pub returns-clause-answers : goal.returns-clause-answers
returns-clause-answers c = answers

-- The next line is the first one of the rest.
use Rattle.std.proofs.Common.{◌+◌}
use Rattle.ll_config.proofs.LineLemmas.{text-bad, text-told}
use Rattle.ll_config.proofs.lines.Lines.text.Goals as goal

pub returns-in-Ok-clause-value : goal.returns-in-Ok-clause-value
returns-in-Ok-clause-value c =
    text-told c.args.self.now c.self.inside.rest.now c.cut_line.result.0.now c.cut_line.result.1.now (c.self.inside.count + 1) c.self.view_is c.cut_line.ensures.lines
    c.in-Ok.text.now c.in-Ok.ensures.cases.0 c.in-Ok.ensures.cases.1

pub returns-in-Err-clause-bad : goal.returns-in-Err-clause-bad
returns-in-Err-clause-bad c =
    text-bad c.args.self.now c.self.inside.rest.now c.cut_line.result.0.now c.cut_line.result.1.now (c.self.inside.count + 1) c.self.view_is c.cut_line.ensures.lines
    c.in-Err.ensures.cases.0

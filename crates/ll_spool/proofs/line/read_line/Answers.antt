-- A line is read if it is UTF-8 and begins with the number.
use Rattle.std.proofs.Common.{◌+◌, ◌∙◌}
use Rattle.ll_spool.proofs.LineLemmas.{bad-line, spooled-ok, spooled-raw}
use Rattle.ll_spool.proofs.line.read_line.Goals as goal

pub returns-in_default-clause-bad : goal.returns-in_default-clause-bad
returns-in_default-clause-bad c = λ number is.
    (spooled-raw c.args.settings.now c.args.count c.args.line.now c.in_default.ensures.cases.0, bad-line number (c.args.count + 1) c.bad.result c.bad.ensures is)

pub returns-in-Some-clause-value : goal.returns-in-Some-clause-value
returns-in-Some-clause-value c =
    spooled-ok c.args.settings.now c.args.count c.args.line.now c.in-Ok.text.now c.as_str.result.now c.in-Some.text.now c.read_item.result c.in-Ok.ensures.cases.0
    c.in-Ok.ensures.cases.1 (c.as_str.ensures.value ∙ c.in_ok-number.ensures) c.in-Some.ensures c.read_item.ensures.value

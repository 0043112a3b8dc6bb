-- The items of a text whose first line is that of the settings, or of one without a whole line.
use Rattle.std.proofs.Common.{rules, ◌∙◌}
use Rattle.ll_spool.proofs.RestoreLemmas.{restored_nothing, restored_same, whole_lines, whole_nothing}
use Rattle.ll_spool.proofs.restoring.restore.Goals as goal

pub returns-in_default-clause-restored : goal.returns-in_default-clause-restored
returns-in_default-clause-restored g c =
    restored_nothing c.args.settings.now c.args.text.now _ c.in_ok-begun.field-0.items (g.D.Disk.files c.args.disk.now) c.in_default.ensures.lines c.in_ok-begun.ensures

pub returns-in_default-clause-whole : goal.returns-in_default-clause-whole
returns-in_default-clause-whole g c = whole_nothing c.args.text.now c.in_default.ensures.lines

pub returns-clause-restored : goal.returns-clause-restored
returns-clause-restored g c =
    restored_same c.args.settings.now c.args.text.now c.in-Some.first.now c.in-Some.lines.now c.as_bytes.result.now _ _ c.in_ok-layouts.count c.in_ok-layouts.layouts.items
    (g.D.Disk.files c.args.disk.now) c.in-Some.ensures.lines (c.as_bytes.ensures.value ∙ c.in_ok-line.ensures) c.ne.result c.ne.ensures c.if-ne.false
    c.in_ok-layouts.ensures.published

pub returns-clause-whole : goal.returns-clause-whole
returns-clause-whole g c =
    whole_lines c.args.text.now c.in-Some.first.now c.in-Some.lines.now c.in_ok-layouts.rest c.saturating_sub-whole.result c.in-Some.ensures.lines c.in-Some.ensures.text
    c.in_ok-layouts.ensures.rest (search rules)

-- A tag is read by where its first colon stands.
use Rattle.std.proofs.Common.{rules, sym, ◌∙◌}
use Rattle.ll_line.proofs.LineLaws.{tag_read}
use Rattle.ll_line.proofs.line.Line.read.Goals as goal

pub returns-in-Some : goal.returns-in-Some
returns-in-Some c =
    c.tagged.ensures
    ∙ sym (tag_read c.args.text.now c.until.result.0.now c.until.result.1.now c.in-Some.said.now (search rules) c.until.ensures c.in-Some.ensures)

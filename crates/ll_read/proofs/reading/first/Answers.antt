-- The first line, if others follow.
use Rattle.std.proofs.Common.{◌∙◌}
use Rattle.ll_read.proofs.Onward.{first_is}
use Rattle.ll_read.proofs.reading.first.Goals as goal

pub returns-in-Some : goal.returns-in-Some
returns-in-Some c = c.without_end.ensures ∙ first_is c.args.text.now c.in-Some.line.now c.in-Some.field-0-1.now c.in-Some.ensures.parts

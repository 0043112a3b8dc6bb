-- Each line has at least one byte.
use Rattle.std.proofs.Common.{◌+◌, ◌∙◌}
use Rattle.ll_config.proofs.LineLemmas.{over-is}
use Rattle.ll_config.proofs.lines.Lines.is_over.Goals as goal

pub returns : goal.returns
returns c = c.is_empty.ensures ∙ over-is c.args.self.now c.self.inside.rest.now (c.self.inside.count + 1) c.self.view_is

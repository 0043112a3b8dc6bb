-- The result of `split_once`, as the definition of parts states it.
use Rattle.std.proofs.lemmas.Str.Pattern.{split_once_first}
use Rattle.ll_attr.proofs.PartsAtCut.{parts_at-cut}
use Rattle.ll_attr.proofs.parts.cut.Goals as goal

pub returns-clause-parts : goal.returns-clause-parts
returns-clause-parts c =
    let s = c.split_once in
    parts_at-cut c.args.separator c.args.text.now s.result (split_once_first c.args.separator c.args.text.now s.result s.ensures.cases c.requires)

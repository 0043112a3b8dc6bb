-- Where `split_once` cuts, in the words of the first equals sign.
use Rattle.std.proofs.Common.{lit<}
use Rattle.std.proofs.lemmas.Str.Pattern.{split_once_first}
use Rattle.ll_attr.proofs.Names.{unnamed}
use Rattle.ll_attr.proofs.attribute_text.name_and_value.Goals as goal

pub returns-in_default : goal.returns-in_default
returns-in_default c =
    let s = c.split_once in
    let cut = rw c.in_default.is at (split_once_first 61 c.args.part.now s.result s.ensures.cases (lit< tt)) in
    unnamed c.args.part.now cut

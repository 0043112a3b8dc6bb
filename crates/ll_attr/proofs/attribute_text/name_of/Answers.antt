-- Where `split_once` cuts, in the words of the first equals sign.
use Rattle.std.proofs.Common.{lit<}
use Rattle.std.proofs.lemmas.Str.Pattern.{split_once_first}
use Rattle.ll_attr.proofs.Names.{uncut_name}
use Rattle.ll_attr.proofs.attribute_text.name_of.Goals as goal

pub returns-in-None : goal.returns-in-None
returns-in-None c =
    let s = c.split_once in
    let cut = rw c.in-None.is at (split_once_first 61 c.args.part.now s.result s.ensures.cases (lit< tt)) in
    uncut_name c.args.part.now cut

pub returns-in-Some : goal.returns-in-Some
returns-in-Some c =
    let s = c.split_once in
    let cut = rw c.in-Some.is at (split_once_first 61 c.args.part.now s.result s.ensures.cases (lit< tt)) in
    cut.1

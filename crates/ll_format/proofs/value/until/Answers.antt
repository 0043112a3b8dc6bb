-- A text is cut at the first place of the byte.
use Rattle.std.proofs.lemmas.Str.Pattern.{find_char}
use Rattle.ll_format.proofs.Finding.{until_none, until_split}
use Rattle.ll_format.proofs.value.until.Goals as goal

pub returns-in-Some : goal.returns-in-Some
returns-in-Some c =
    let found = rw c.in-Some.is at (find_char c.args.end c.args.text.now c.find.result c.find.ensures.cases c.requires) in
    let s = c.split_at in
    until_split c.args.end c.args.text.now c.in-Some.place s.result.0.now s.result.1.now found.0 found.1 found.2 s.ensures.front s.ensures.back

pub returns-in-None : goal.returns-in-None
returns-in-None c =
    let nowhere = rw c.in-None.is at (find_char c.args.end c.args.text.now c.find.result c.find.ensures.cases c.requires) in
    until_none c.args.end c.args.text.now nowhere

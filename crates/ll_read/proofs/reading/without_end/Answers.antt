-- The CR at the end.
use Rattle.std.proofs.Common.{lit<}
use Rattle.std.proofs.lemmas.Str.Pattern.{strip_suffix_char}
use Rattle.ll_read.proofs.Ends.{stripped, kept}
use Rattle.ll_read.proofs.reading.without_end.Goals as goal

pub returns-in-Some : goal.returns-in-Some
returns-in-Some c =
    let s = c.strip_suffix in
    stripped c.args.line.now c.in-Some.front.now (rw c.in-Some.is at (strip_suffix_char 13 c.args.line.now s.result s.ensures.cases (lit< tt)))

pub returns-in-None : goal.returns-in-None
returns-in-None c =
    let s = c.strip_suffix in
    kept c.args.line.now (rw c.in-None.is at (strip_suffix_char 13 c.args.line.now s.result s.ensures.cases (lit< tt)))

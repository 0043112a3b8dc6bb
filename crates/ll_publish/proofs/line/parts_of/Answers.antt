-- A line is cut at its first space.
use Rattle.std.proofs.Common.{subst, sym, MatchOption, None, Some, ◌≡◌}
use Rattle.std.specs.Str.{IsUtf8}
use Rattle.ll_publish.specs.Lines.{parts}
use Rattle.ll_publish.proofs.TextLemmas.{of-cut, raw}
use Rattle.ll_publish.proofs.line.parts_of.Goals as goal

pub returns-in-Ok : goal.returns-in-Ok
returns-in-Ok c =
    let read = c.in-Ok.ensures.cases in
    subst (λ t. MatchOption c.split_once.result (parts t ≡ None) (λ p. parts t ≡ Some (p.0.now, p.1.now))) read.0
    (of-cut c.in-Ok.text.now c.split_once.result (subst IsUtf8 (sym read.0) read.1) c.split_once.ensures.cases)

pub returns-in-Err : goal.returns-in-Err
returns-in-Err c = raw c.args.text.now c.in-Err.ensures.cases.0

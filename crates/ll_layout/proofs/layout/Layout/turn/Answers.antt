-- What stood on the current side stands on the other one then.
use Rattle.std.proofs.Common.{rules, ◌≡◌, sym, subst}
use Rattle.ll_layout.specs.Held.{Holds, other}
use Rattle.ll_layout.specs.Moves.{IsTidy, now_on}
use Rattle.ll_layout.proofs.HoldLemmas.{turned-holds, turned-tidy}
use Rattle.ll_layout.proofs.layout.Layout.turn.Goals as goal

pub invariant_of-self-2 : goal.invariant_of-self-2
invariant_of-self-2 c =
    let l = c.args.self.now in
    let tidy : IsTidy l.side l.end l.end_before l.older l.newer l.sections = search rules in
    let then = turned-tidy l c.requires tidy in
    search rules

pub returns-clause-holds : goal.returns-clause-holds
returns-clause-holds c = λ files of h.
    let l = c.args.self.now in
    let tidy : IsTidy l.side l.end l.end_before l.older l.newer l.sections = search rules in
    let holds = turned-holds files of l c.requires tidy h in
    search rules

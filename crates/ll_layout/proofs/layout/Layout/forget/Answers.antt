-- What is left stands within the files.
use Rattle.std.proofs.Common.{rules, ◌≡◌, sym, subst}
use Rattle.ll_layout.specs.Moves.{IsTidy}
use Rattle.ll_layout.proofs.HoldLemmas.{gone-tidy}
use Rattle.ll_layout.proofs.layout.Layout.forget.Goals as goal

pub invariant_of-self : goal.invariant_of-self
invariant_of-self c =
    let l = c.args.self.now in
    let tidy : IsTidy l.side l.end l.end_before l.older l.newer l.sections = search rules in
    let then = gone-tidy l tidy in
    search rules

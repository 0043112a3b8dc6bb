-- All bytes stand within the files.
use Rattle.std.proofs.Common.{rules, ◌≡◌, sym, subst}
use Rattle.ll_layout.specs.Moves.{IsTidy}
use Rattle.ll_layout.proofs.HoldLemmas.{part-tidy}
use Rattle.ll_layout.proofs.layout.Layout.add_part.Goals as goal

pub invariant_of-self-2 : goal.invariant_of-self-2
invariant_of-self-2 c =
    let l = c.args.self.now in
    let tidy : IsTidy l.side l.end l.end_before l.older l.newer l.sections = search rules in
    let then = part-tidy c.args.number c.args.count c.args.length l tidy in
    search rules

-- All bytes stand within the files.
use Rattle.std.proofs.Common.{rules, ◌≡◌, sym, subst}
use Rattle.ll_layout.specs.Moves.{IsTidy}
use Rattle.ll_layout.proofs.HoldLemmas.{fewer-tidy, section-tidy}
use Rattle.ll_layout.proofs.layout.Layout.add_section.Goals as goal

pub invariant_of-self : goal.invariant_of-self
invariant_of-self c =
    let tidy = fewer-tidy c.args.map c.self.inside.side c.self.inside.end c.self.inside.end_before c.self.inside.older.items c.self.inside.newer.items c.self.inside.sections.items c.self.invariant in
    search rules

pub invariant_of-self-2 : goal.invariant_of-self-2
invariant_of-self-2 c =
    let l = c.args.self.now in
    let tidy : IsTidy l.side l.end l.end_before l.older l.newer l.sections = search rules in
    let then = section-tidy c.args.map c.args.count c.args.length l tidy in
    search rules

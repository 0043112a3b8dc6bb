-- The files hold what is kept with one more item.
use Rattle.std.proofs.Common.{rules, ◌≡◌, ◌++◌, sym, subst}
use Rattle.ll_layout.specs.Held.{Holds, with_file}
use Rattle.ll_layout.specs.Moves.{added}
use Rattle.ll_item.specs.Items.{media_of}
use Rattle.ll_layout.proofs.HoldLemmas.{added-holds}
use Rattle.ll_layout.proofs.layout.Layout.add.Goals as goal

pub returns-clause-holds : goal.returns-clause-holds
returns-clause-holds c = λ files of h is.
    let l = c.args.self.now in
    let new : c.forget.new.self ≡ added c.args.count c.args.item.now c.forget.new.self.window l = search rules in
    subst (Holds (with_file l.side (files l.side ++ media_of c.args.item.now) files) of) (sym new) (added-holds files of c.args.count c.args.item.now c.forget.new.self.window l h is)

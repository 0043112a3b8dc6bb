-- What is kept stands within the bytes that are needed.
use Rattle.std.proofs.Common.{rules, ◌≡◌, ◌≤◌, ◌+◌, sym, subst}
use Rattle.ll_layout.specs.Held.{Each, size, stored}
use Rattle.ll_layout.specs.Moves.{IsTidy}
use Rattle.ll_layout.specs.declared.stored.StoredItem.{StoredItem}
use Rattle.ll_layout.proofs.HoldLemmas.{all-inside}
use Rattle.ll_layout.proofs.layout.Layout.size.Goals as goal

pub returns-then-side-self-clause-inside : goal.returns-then-side-self-clause-inside
returns-then-side-self-clause-inside c =
    let l = c.args.self.now in
    let tidy : IsTidy l.side l.end l.end_before l.older l.newer l.sections = search rules in
    let value : c.self.inside.end ≡ size l c.args.side = search rules in
    subst (λ n. Each (λ (s : StoredItem). s.place.side ≡ c.args.side → s.place.offset + s.place.length ≤ n) (stored l)) (sym value) (all-inside c.args.side l tidy)

pub returns-then-is_empty-clause-inside : goal.returns-then-is_empty-clause-inside
returns-then-is_empty-clause-inside c =
    let l = c.args.self.now in
    let tidy : IsTidy l.side l.end l.end_before l.older l.newer l.sections = search rules in
    let value : 0 ≡ size l c.args.side = search rules in
    subst (λ n. Each (λ (s : StoredItem). s.place.side ≡ c.args.side → s.place.offset + s.place.length ≤ n) (stored l)) (sym value) (all-inside c.args.side l tidy)

pub returns-else-is_empty-clause-inside : goal.returns-else-is_empty-clause-inside
returns-else-is_empty-clause-inside c =
    let l = c.args.self.now in
    let tidy : IsTidy l.side l.end l.end_before l.older l.newer l.sections = search rules in
    let value : c.self.inside.end_before ≡ size l c.args.side = search rules in
    subst (λ n. Each (λ (s : StoredItem). s.place.side ≡ c.args.side → s.place.offset + s.place.length ≤ n) (stored l)) (sym value) (all-inside c.args.side l tidy)

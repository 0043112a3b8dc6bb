-- A part at the front is dropped only if it isn't shown.
use Rattle.std.proofs.Common.{rules, ◌≡◌, ◌≤◌, ◌<◌, ap, ◌∙◌, length, arith, slice_index_or}
use Rattle.ll_layout.proofs.MoveLemmas.{front-goes, front-stays, shown-none}
use Rattle.ll_layout.specs.Moves.{shown_from}
use Rattle.ll_layout.proofs.moves.drop_before.Goals as goal

pub returns-then-first-part : goal.returns-then-first-part
returns-then-first-part c =
    let some : 0 < length c.loop-part.parts.items = search rules in
    let is : c.in-Some.part.now ≡ slice_index_or c.loop-part.parts.items 0 c.in-Some.part.now = search rules in
    front-stays c.args.first c.loop-part.parts.items c.in-Some.part.now some is (omega (arith, c.if-first-part.true)) ∙ c.loop-part.invariant

pub loop-part-preserved : goal.loop-part-preserved
loop-part-preserved c =
    let some : 0 < length c.loop-part.parts.items = search rules in
    let is : c.in-Some.part.now ≡ slice_index_or c.loop-part.parts.items 0 c.in-Some.part.now = search rules in
    ap (shown_from c.args.first) c.pop_front.ensures.rest ∙ front-goes c.args.first c.loop-part.parts.items c.in-Some.part.now some is c.if-first-part.false ∙ c.loop-part.invariant

pub returns : goal.returns
returns c =
    let none : length c.loop-part.parts.items ≡ 0 = search rules in
    shown-none c.args.first c.loop-part.parts.items none ∙ c.loop-part.invariant

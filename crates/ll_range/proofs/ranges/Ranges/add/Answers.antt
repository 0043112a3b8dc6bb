-- The test is the refusal after the items, and the addition is the step from them.
use Rattle.std.proofs.Common.{subst, None, ◌≡◌, ◌++◌, ◌∷◌, []}
use Rattle.ll_item.specs.declared.item.Item.TheVariants as item
use Rattle.ll_range.specs.Announced.{add_refusal, announced}
use Rattle.ll_range.proofs.Steps.{free-range}
use Rattle.ll_range.proofs.ranges.Ranges.add.Goals as goal

pub returns-in-Ok-clause-accepted : goal.returns-in-Ok-clause-accepted
returns-in-Ok-clause-accepted c = λ conf items rendition e t. (
  free-range conf items c.args.id c.args.attributes c.args.self.now c.args.end e t
      (subst (λ id. add_refusal c.args.end id c.args.attributes c.args.self.now ≡ None) c.as_str.ensures c.in_default.ensures),
  subst (λ id. c.list.new.self ≡ announced conf (items ++ item.Range rendition id c.args.attributes ∷ [])) c.as_str-2.ensures
      (c.in-Ok.ensures.accepted conf items rendition e t),
)

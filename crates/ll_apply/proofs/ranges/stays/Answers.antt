-- Both questions are those of the definition.
use Rattle.std.proofs.Common.{false, true, not, refl, ap, sym, ◌∙◌}
use Rattle.ll_read.specs.Ranges.{has_id}
use Rattle.ll_apply.proofs.Staying.{stays-by}
use Rattle.ll_apply.proofs.ranges.stays.Goals as goal

pub returns-then-not-contains : goal.returns-then-not-contains
returns-then-not-contains c = λ ids has.
    stays-by ids c.args.delta.now.ranges (record { id = c.args.range.id.now; attributes = c.args.range.attributes.now }) false c.has_range.result
    (sym c.if-not-contains.true ∙ c.contains.ensures ∙ has c.args.range.id.now) c.has_range.ensures

pub returns-else-not-contains : goal.returns-else-not-contains
returns-else-not-contains c = λ ids has.
    ap not c.if-not-contains.false
    ∙ stays-by ids c.args.delta.now.ranges (record { id = c.args.range.id.now; attributes = c.args.range.attributes.now }) true (has_id c.args.range.id.now c.args.delta.now.ranges)
    (sym c.if-not-contains.false ∙ c.contains.ensures ∙ has c.args.range.id.now) refl

-- A part has three words more.
use Rattle.std.proofs.Common.{ap, ◌∙◌, ◌∷◌, sym}
use Rattle.ll_item.proofs.LastWord.{part_by}
use Rattle.ll_item.specs.Announced as spec
use Rattle.ll_item.proofs.item_bytes.has_bytes.Goals as goal

pub returns-then-eq : goal.returns-then-eq
returns-then-eq c =
    let words = c.in-Some.ensures.parts ∙ ap (λ ws. c.in-Some.kind.now ∷ ws) (c.in-Some-cut.ensures.parts ∙ ap (λ ws. c.in-Some-cut.field-0-0.now ∷ ws) c.in-Some-cut-2.ensures.parts) in
    part_by c.in-Some.kind.now c.in-Some-cut.field-0-0.now c.in-Some-cut-2.field-0-0.now c.in-Some-cut-2.last.now c.cut-then-eq.result c.is_none.result c.cut-then-eq.ensures.parts
    (sym c.if-eq.ensures) c.is_none.ensures ∙ ap spec.has_bytes (sym words)

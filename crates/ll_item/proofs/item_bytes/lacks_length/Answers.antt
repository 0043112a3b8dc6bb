-- An initialization section's line has no third word.
use Rattle.std.proofs.Common.{ap, ◌∙◌, sym}
use Rattle.ll_item.proofs.LastWord.{alone_by}
use Rattle.ll_item.specs.Announced as spec
use Rattle.ll_item.proofs.item_bytes.lacks_length.Goals as goal

pub returns-then-eq : goal.returns-then-eq
returns-then-eq c =
    alone_by c.in-Some.kind.now c.in-Some.rest.now c.cut-then-eq.result c.is_none.result c.cut-then-eq.ensures.parts (sym c.if-eq.ensures) c.is_none.ensures
    ∙ ap spec.lacks_length (sym c.in-Some.ensures.parts)

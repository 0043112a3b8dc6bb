-- One part more is read.
use Rattle.std.proofs.Common.{◌∙◌, ap, sym, rules, false, [], Ok}
use Rattle.ll_attr.specs.Attributes.{attributes_in, parts_outside}
use Rattle.ll_attr.proofs.ReadSoFar.{read_on, read_more, read_last, read_part}
use Rattle.ll_attr.proofs.attribute_parse.read.Goals as goal

pub loop-attributes-preserved : goal.loop-attributes-preserved
loop-attributes-preserved c =
    let whole = parts_outside false c.loop-attributes.rest.now in
    let parts = parts_outside false c.in-Some.after.now in
    let part = c.first_part.result.0.now in
    let found = c.loop-attributes.attributes.items in
    let text = attributes_in c.args.text.now in
    let cut = rw c.in-Some.is at c.first_part.ensures.parts in
    let some = read_part found part parts whole text cut c.loop-attributes.invariant.1 c.requires in
    let read = some.1 ∙ ap Ok (sym (c.in_ok-attribute_of.ensures _ some.0 some.1)) in
    (search rules, ap (λ xs. read_on xs parts) c.in_ok-push.ensures.items ∙ read_more found c.in_ok-attribute_of.field-0 part parts whole text cut read c.loop-attributes.invariant.1)

pub returns-in-None : goal.returns-in-None
returns-in-None c =
    let whole = parts_outside false c.loop-attributes.rest.now in
    let part = c.first_part.result.0.now in
    let found = c.loop-attributes.attributes.items in
    let text = attributes_in c.args.text.now in
    let cut = rw c.in-None.is at c.first_part.ensures.parts in
    let some = read_part found part [] whole text cut c.loop-attributes.invariant.1 c.requires in
    let read = some.1 ∙ ap Ok (sym (c.in_ok-attribute_of.ensures _ some.0 some.1)) in
    read_last found c.in_ok-attribute_of.field-0 part whole text cut read c.loop-attributes.invariant.1 ∙ ap Ok (sym c.in_ok-push.ensures.items)

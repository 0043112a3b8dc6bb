-- What was found of the part, in the words of its first fault.
use Rattle.std.proofs.Common.{◌∙◌, ap, sym, refl, true, false, take, None, Some}
use Rattle.std.specs.List.{after_first}
use Rattle.ll_attr.specs.Attributes.{parts_outside, is_equals, value_in}
use Rattle.ll_attr.specs.Reading.{value_as}
use Rattle.ll_attr.proofs.Faults.{checked}
use Rattle.ll_attr.proofs.attribute_parse.part_fault.Goals as goal

pub returns-then-stands_before : goal.returns-then-stands_before
returns-then-stands_before c =
    let part = c.args.part.now in
    let parts = take c.args.count (parts_outside false c.args.text.now) in
    let named = c.in-Some.ensures in
    checked part c.in-Some.name.now parts true (value_in (after_first is_equals part)) named.0 named.1 (sym c.if-stands_before.ensures) refl

pub returns-in-Some-value_text : goal.returns-in-Some-value_text
returns-in-Some-value_text c =
    let part = c.args.part.now in
    let parts = take c.args.count (parts_outside false c.args.text.now) in
    let named = c.in-Some.ensures in
    let value = c.in-Some-value_text.field-0 in
    checked part c.in-Some.name.now parts false (Some (value_as value.0 value.1.now)) named.0 named.1 (sym c.if-stands_before.ensures) (ap value_in (sym named.2) ∙ c.in-Some-value_text.ensures)

pub returns-in-None : goal.returns-in-None
returns-in-None c =
    let part = c.args.part.now in
    let parts = take c.args.count (parts_outside false c.args.text.now) in
    let named = c.in-Some.ensures in
    checked part c.in-Some.name.now parts false None named.0 named.1 (sym c.if-stands_before.ensures) (ap value_in (sym named.2) ∙ c.in-None.ensures)

-- A part's fault is that after the names of the set.
use Rattle.std.proofs.Common.{◌∙◌, sym, false, true}
use Rattle.std.specs.List.{after_first}
use Rattle.ll_attr.specs.Attributes.{is_equals, value_in}
use Rattle.ll_attr.specs.Reading.{is_named}
use Rattle.ll_attr.proofs.SetNames.{stands, is_new, is_old, named_twice, valued}
use Rattle.ll_attr.proofs.attribute_parse.new_part_fault.Goals as goal

pub returns-then-not-branch-clause-fault : goal.returns-then-not-branch-clause-fault
returns-then-not-branch-clause-fault c =
    let part = c.args.part.now in
    let twice = stands c.name_of.result c.args.names.now.keys part true c.name_of.ensures (is_old _ (sym c.in_ok-insert.ensures.added ∙ c.if-not-branch.true)) in
    named_twice (is_named part) _ (value_in (after_first is_equals part)) c.in_default.ensures twice

pub returns-clause-fault : goal.returns-clause-fault
returns-clause-fault c =
    let part = c.args.part.now in
    let once = stands c.name_of.result c.args.names.now.keys part false c.name_of.ensures (is_new _ (sym c.in_ok-insert.ensures.added ∙ c.if-not-branch.false)) in
    valued (is_named part) _ (value_in (after_first is_equals part)) _ c.in_default.ensures once c.value_fault.ensures

-- A part's fault is the first if no part before it had one.
use Rattle.std.proofs.Common.{◌∙◌, sym, [], false, rules}
use Rattle.ll_attr.specs.Attributes.{parts_outside}
use Rattle.ll_attr.specs.Reading.{fault_in, name_of, texts}
use Rattle.ll_attr.proofs.Faults.{fault_next, fault_none, fault_here, none_ends, some_ends}
use Rattle.ll_attr.proofs.ReadSoFar.{with_others}
use Rattle.ll_attr.proofs.SetNames.{put}
use Rattle.ll_attr.proofs.attribute_parse.fault_by_set.Goals as goal

pub returns-in-Some-clause-fault : goal.returns-in-Some-clause-fault
returns-in-Some-clause-fault c =
    let whole = parts_outside false c.args.text.now in
    let rest = parts_outside false c.loop-names.rest.now in
    let part = c.first_part.result.0.now in
    let fault = sym c.in-Some.is ∙ c.in_ok-fault.ensures.fault in
    some_ends [] whole c.in-Some.fault (fault_here (texts c.loop-names.names.keys) rest part c.in-Some.fault (fault_in [] whole)
    (with_others rest part c.first_part.result.1 c.first_part.ensures.parts) fault c.loop-names.invariant.1)

pub loop-names-preserved : goal.loop-names-preserved
loop-names-preserved c =
    let whole = parts_outside false c.args.text.now in
    let rest = parts_outside false c.loop-names.rest.now in
    let part = c.first_part.result.0.now in
    let names = texts c.loop-names.names.keys in
    let parts = parts_outside false c.in-Some-after.after.now in
    let cut = rw c.in-Some-after.is at c.first_part.ensures.parts in
    let fine = sym c.in_default.is ∙ c.in_ok-fault.ensures.fault in
    let next = fault_next names rest parts part (fault_in [] whole) cut fine c.loop-names.invariant.1 in
    (search rules, put names (texts c.new_part_fault.new.names.keys) parts (name_of part) (fault_in [] whole) (c.in_ok-fault.ensures.put c.in_default.is) next)

pub returns-in-None-clause-fault : goal.returns-in-None-clause-fault
returns-in-None-clause-fault c =
    let whole = parts_outside false c.args.text.now in
    let rest = parts_outside false c.loop-names.rest.now in
    let last = rw c.in-None.is at c.first_part.ensures.parts in
    let fine = sym c.in_default.is ∙ c.in_ok-fault.ensures.fault in
    none_ends [] whole (fault_none (texts c.loop-names.names.keys) rest c.first_part.result.0.now (fault_in [] whole) last fine c.loop-names.invariant.1)

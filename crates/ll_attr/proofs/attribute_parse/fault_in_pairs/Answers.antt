-- A part's fault is the first if no part before it had one.
use Rattle.std.proofs.Common.{[], false, take, arith, rules}
use Rattle.ll_attr.specs.Attributes.{parts_outside}
use Rattle.ll_attr.specs.Reading.{fault_in, names_of_parts}
use Rattle.ll_attr.proofs.Faults.{fault_more, fault_none, fault_here, none_ends, some_ends}
use Rattle.ll_attr.proofs.ReadSoFar.{with_others}
use Rattle.ll_attr.proofs.attribute_parse.fault_in_pairs.Goals as goal

pub returns-in-Some-clause-fault : goal.returns-in-Some-clause-fault
returns-in-Some-clause-fault c =
    let whole = parts_outside false c.args.text.now in
    let rest = parts_outside false c.loop-fault.rest.now in
    let part = c.first_part.result.0.now in
    let names = names_of_parts [] (take c.loop-fault.count whole) in
    some_ends [] whole c.in-Some.fault (fault_here names rest part c.in-Some.fault (fault_in [] whole)
    (with_others rest part c.first_part.result.1 c.first_part.ensures.parts) c.in-Some.ensures c.loop-fault.invariant.2)

pub returns-in-None-clause-fault : goal.returns-in-None-clause-fault
returns-in-None-clause-fault c =
    let whole = parts_outside false c.args.text.now in
    let rest = parts_outside false c.loop-fault.rest.now in
    let part = c.first_part.result.0.now in
    let names = names_of_parts [] (take c.loop-fault.count whole) in
    let last = rw c.in-None.is at c.first_part.ensures.parts in
    none_ends [] whole (fault_none names rest part (fault_in [] whole) last c.in_default.ensures c.loop-fault.invariant.2)

pub loop-fault-preserved : goal.loop-fault-preserved
loop-fault-preserved c =
    let whole = parts_outside false c.args.text.now in
    let rest = parts_outside false c.loop-fault.rest.now in
    let after = c.in-Some-after.after.now in
    let part = c.first_part.result.0.now in
    let cut = rw c.in-Some-after.is at c.first_part.ensures.parts in
    let shorter = rw c.in-Some-after.is at c.first_part.ensures.shorter in
    let more = fault_more c.loop-fault.count whole rest (parts_outside false after) part (fault_in [] whole) c.loop-fault.invariant.1 cut c.in_default.ensures c.loop-fault.invariant.2 in
    (search rules, more.0, more.1, omega (arith, shorter, c.loop-fault.invariant.3))

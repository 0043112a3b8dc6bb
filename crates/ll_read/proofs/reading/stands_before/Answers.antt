-- A line has the id, or it depends on those after it.
use Rattle.std.proofs.Common.{arith, false, rules, sym, true, ◌∙◌}
use Rattle.ll_read.proofs.Before.{turn}
use Rattle.ll_read.proofs.reading.stands_before.Goals as goal

pub returns-then-has_this_id : goal.returns-then-has_this_id
returns-then-has_this_id c =
    sym (turn c.args.id.now c.in-Some.line.now c.without_end-in-loop-left.result.now c.loop-left.rest.now c.in-Some.below.now c.loop-left.left c.has_this_id-in-loop-left.result true
    c.in-Some.ensures.parts (omega arith) c.without_end-in-loop-left.ensures c.has_this_id-in-loop-left.ensures c.if-has_this_id.true)
    ∙ c.loop-left.invariant.1

pub loop-left-preserved : goal.loop-left-preserved
loop-left-preserved c = (
  search rules,
  sym (turn c.args.id.now c.in-Some.line.now c.without_end-in-loop-left.result.now c.loop-left.rest.now c.in-Some.below.now c.loop-left.left c.has_this_id-in-loop-left.result false
      c.in-Some.ensures.parts (omega arith) c.without_end-in-loop-left.ensures c.has_this_id-in-loop-left.ensures c.if-has_this_id.false)
      ∙ c.loop-left.invariant.1,
)

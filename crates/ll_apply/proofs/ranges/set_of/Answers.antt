-- One id more.
use Rattle.ll_apply.proofs.Ids.{one-more}
use Rattle.ll_apply.proofs.ranges.set_of.Goals as goal

pub loop-id-preserved : goal.loop-id-preserved
loop-id-preserved c = λ id.
    one-more id c.loop-id.set.keys c.insert.new.self.keys c.as_str.result c.args.ids.now c.loop-id.id-index c.id-item.result
    c.in-Ok.ensures.keys c.as_str.ensures c.id-item.is c.loop-id-test.true (c.loop-id.invariant id)

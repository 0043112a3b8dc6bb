-- A segment is dropped from the front only if more are left than are kept.
use Rattle.std.proofs.Common.{ap, arith, length, ◌<◌, ◌∙◌}
use Rattle.ll_store.proofs.Last.{last_shorter}
use Rattle.ll_store.specs.Media.{last_of}
use Rattle.ll_store.proofs.store.keep_last.Goals as goal

pub loop-segments-preserved-in-loop-segments : goal.loop-segments-preserved-in-loop-segments
loop-segments-preserved-in-loop-segments c =
    let more : c.args.count < length c.loop-segments.segments.items = omega (arith, c.loop-segments-test.true, c.len.ensures) in
    ap (last_of c.args.count) c.pop_front.ensures.rest ∙ last_shorter c.args.count c.loop-segments.segments.items more ∙ c.loop-segments.invariant

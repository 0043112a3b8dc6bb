-- A turn goes one segment towards the first; it ends once all segments before are skipped.
use Rattle.std.proofs.Common.{◌-◌, ap, arith}
use Rattle.ll_window.proofs.SkipLemmas.{goes-back, lasting-all, skipped-before}
use Rattle.ll_window.proofs.finished.Finished.skip_count.Goals as goal

pub overflow_add-after : goal.overflow_add-after
overflow_add-after c =
    let i = c.loop-count.invariant in
    let back = goes-back c.args.limit c.args.open_duration c.loop-count.after c.loop-count.count c.behind-self.inside.segment.duration c.args.self.now.rows.items _
    c.loop-count-test.true i.0 c.index.ensures i.1 (ap (λ r. r.segment.duration) c.behind-self.view_is) c.if-after-limit.true in
    let b0 = back.0 in
    let all = lasting-all c.args.self.now.rows.items (c.loop-count.count - 1) in
    omega (arith, b0, all, c.requires.sum, c.requires.lasting)

pub loop-count-preserved : goal.loop-count-preserved
loop-count-preserved c =
    let i = c.loop-count.invariant in
    let i0 = i.0 in
    let back = goes-back c.args.limit c.args.open_duration c.loop-count.after c.loop-count.count c.behind-self.inside.segment.duration c.args.self.now.rows.items _
    c.loop-count-test.true i.0 c.index.ensures i.1 (ap (λ r. r.segment.duration) c.behind-self.view_is) c.if-after-limit.true in
    (omega (arith, i0), back.0, back.1)

pub returns-else-after-limit : goal.returns-else-after-limit
returns-else-after-limit c =
    let i = c.loop-count.invariant in
    let i1 = i.1 in
    skipped-before c.args.limit c.args.open_duration c.loop-count.count c.args.self.now.rows.items i.0 (omega (arith, i1, c.if-after-limit.false)) i.2

-- Each read adds its bytes to those that came before, and the answers to their lines to the answers before.
use Rattle.std.proofs.Common.{[], arith, refl, length, ◌<◌, ◌++◌, ◌∙◌, take}
use Rattle.ll_device.proofs.InwardLemmas.{looked_at-none}
use Rattle.ll_service.proofs.ReadLemmas.{IsReadWithin-then, read-then}
use Rattle.ll_publisher.proofs.ServingLemmas.{cut-answering, cut-reading, drained-at, drained-first, on-err, served, serving-fed}
use Rattle.ll_publisher.proofs.publisher.read_all.Goals as goal

pub loop-init : goal.loop-init
loop-init g c = record { steady = refl; taken = []; read = looked_at-none _; drained = drained-first _ _ _ _ _ c.requires.unfed c.requires.closed }

pub loop-preserved : goal.loop-preserved
loop-preserved g c =
    let i = c.loop.invariant in
    let piece = take c.in-Ok.count c.read.new.buf in
    let drained = drained-at _ i.taken _ _ _ _ _ _ i.drained c.read.ensures.unwritten in
    record {
      steady = c.in_ok-answer.ensures.faults ∙ c.in-Ok.ensures.steady ∙ i.steady;
      taken = i.taken ++ piece;
      read = read-then _ _ _ c.loop.counter 1 0 i.taken piece i.read (c.in_ok-answer.ensures.unread ∙ c.in-Ok.ensures.more (omega arith));
      drained = c.in_ok-answer.ensures.served (i.taken ++ piece) _ _ (serving-fed _ i.taken piece _ _ _ _ _ _ drained.serving c.in_ok-take.ensures.ok);
    }

pub returns-in_default-clause-few : goal.returns-in_default-clause-few
returns-in_default-clause-few g c =
    IsReadWithin-then _ _ _ c.loop.counter 1 0 _ [] (c.loop.invariant.taken, c.loop.invariant.read) c.in_default.ensures.cut (omega arith)

pub returns-in_default-clause-cut_off : goal.returns-in_default-clause-cut_off
returns-in_default-clause-cut_off g c =
    let i = c.loop.invariant in
    cut-reading _ _ _ _ c.loop.counter 1 i.taken [] _ _ _ _ _ i.read c.in_default.ensures.cut (drained-at _ i.taken _ _ _ _ _ _ i.drained c.read.ensures.unwritten)

pub returns-then-count-eq0-clause-few : goal.returns-then-count-eq0-clause-few
returns-then-count-eq0-clause-few g c =
    let room : 0 < length c.read.new.buf = omega arith in
    IsReadWithin-then _ _ _ c.loop.counter 1 1 _ [] (c.loop.invariant.taken, c.loop.invariant.read) (c.in-Ok.ensures.end c.if-count-eq0.true room) (omega arith)

pub returns-then-count-eq0-clause-served : goal.returns-then-count-eq0-clause-served
returns-then-count-eq0-clause-served g c =
    let i = c.loop.invariant in
    let room : 0 < length c.read.new.buf = omega arith in
    served _ _ _ _ c.loop.counter 1 i.taken _ _ _ _ _ i.read (c.in-Ok.ensures.end c.if-count-eq0.true room) (drained-at _ i.taken _ _ _ _ _ _ i.drained c.read.ensures.unwritten)

pub returns-in_err-take-clause-few : goal.returns-in_err-take-clause-few
returns-in_err-take-clause-few g c =
    IsReadWithin-then _ _ _ c.loop.counter 1 0 _ _ (c.loop.invariant.taken, c.loop.invariant.read) (c.in-Ok.ensures.more (omega arith)) (omega arith)

pub returns-in_err-take-clause-cut_off : goal.returns-in_err-take-clause-cut_off
returns-in_err-take-clause-cut_off g c =
    let i = c.loop.invariant in
    on-err _ (cut-reading _ _ _ _ c.loop.counter 1 i.taken (take c.in-Ok.count c.read.new.buf) _ _ _ _ _ i.read (c.in-Ok.ensures.more (omega arith))
    (drained-at _ i.taken _ _ _ _ _ _ i.drained c.read.ensures.unwritten))

pub returns-in_err-answer-clause-few : goal.returns-in_err-answer-clause-few
returns-in_err-answer-clause-few g c =
    IsReadWithin-then _ _ _ c.loop.counter 1 0 _ _ (c.loop.invariant.taken, c.loop.invariant.read) (c.in_err-answer.ensures.unread ∙ c.in-Ok.ensures.more (omega arith)) (omega arith)

pub returns-in_err-answer-clause-cut_off : goal.returns-in_err-answer-clause-cut_off
returns-in_err-answer-clause-cut_off g c =
    let i = c.loop.invariant in
    let piece = take c.in-Ok.count c.read.new.buf in
    let drained = drained-at _ i.taken _ _ _ _ _ _ i.drained c.read.ensures.unwritten in
    on-err _ (cut-answering _ _ _ _ c.loop.counter 1 i.taken piece _ _ _ _ i.read (c.in_err-answer.ensures.unread ∙ c.in-Ok.ensures.more (omega arith))
    (c.in_err-answer.ensures.broken (i.taken ++ piece) _ _ (serving-fed _ i.taken piece _ _ _ _ _ _ drained.serving c.in_ok-take.ensures.ok)))

pub returns-clause-cut_off : goal.returns-clause-cut_off
returns-clause-cut_off g c =
    let i = c.loop.invariant in
    cut-reading _ _ _ _ c.loop.counter 0 i.taken [] _ _ _ _ _ i.read (looked_at-none _) i.drained

-- The bytes so far and what is left are the input, so what a piece or the end says is said of the script.
use Rattle.std.proofs.Common.{arith, refl, [], Err, ap, take, ◌∙◌, length, ◌<◌, ◌≤◌}
use Rattle.std.proofs.KnownBytes.{Consumes-nil, Consumes-trans, Keeps-refl}
use Rattle.std.proofs.lemmas.List.{length-take}
use Rattle.ll_replay.proofs.RunLemmas.{StopsAfter-now, all-consumed, failed-at_end, failed-in_piece, lines_fit_more, stopped-at_end, stopped-in_piece, whole-at_end}
use Rattle.ll_replay.proofs.stream.read_all.Goals as goal

pub loop-init : goal.loop-init
loop-init g c = record {
  reads = omega arith;
  read = refl;
  write = refl;
  lines = omega arith;
  stands = ([], c.requires.fresh _, Consumes-nil _);
}

pub returns-in-Err-clause-stopped : goal.returns-in-Err-clause-stopped
returns-in-Err-clause-stopped g c =
    StopsAfter-now _ _ _ _ _ _ _ c.loop.invariant.stands.0 c.loop.invariant.stands.1 c.loop.invariant.stands.2 c.in-Err.ensures.kept

pub returns-then-count-eq0-clause-whole : goal.returns-then-count-eq0-clause-whole
returns-then-count-eq0-clause-whole g c =
    let room : 0 < length c.read.new.buf = omega arith in
    whole-at_end c.finish.result _ _ _ _ _ _ c.loop.invariant.stands.0 c.finish.ensures.whole c.loop.invariant.stands.1
    (λ input i. all-consumed _ _ _ c.loop.invariant.stands.0 _ input c.loop.invariant.stands.2 c.in-Ok.ensures.bytes (ap (λ n. take n c.read.new.buf) c.if-count-eq0.true)
    (c.in-Ok.ensures.end c.if-count-eq0.true room) i)

pub returns-then-count-eq0-clause-stopped : goal.returns-then-count-eq0-clause-stopped
returns-then-count-eq0-clause-stopped g c =
    let room : 0 < length c.read.new.buf = omega arith in
    stopped-at_end c.finish.result _ _ _ _ _ _ _ c.loop.invariant.stands.0 c.finish.ensures.cut c.loop.invariant.stands.1
    (λ input i. all-consumed _ _ _ c.loop.invariant.stands.0 _ input c.loop.invariant.stands.2 c.in-Ok.ensures.bytes (ap (λ n. take n c.read.new.buf) c.if-count-eq0.true)
    (c.in-Ok.ensures.end c.if-count-eq0.true room) i)

pub returns-then-count-eq0-clause-failed : goal.returns-then-count-eq0-clause-failed
returns-then-count-eq0-clause-failed g c =
    failed-at_end c.finish.result _ _ _ _ _ _ _ _ c.loop.invariant.stands.0 c.finish.ensures.cut c.loop.invariant.stands.1 (λ e. omega (arith, c.finish.ensures.write_failed e))

pub returns-in_err-feed-clause-stopped : goal.returns-in_err-feed-clause-stopped
returns-in_err-feed-clause-stopped g c =
    stopped-in_piece c.from_residual.result c.in_err-feed.field-0.0 _ _ _ _ _ c.loop.invariant.stands.0 (take c.in-Ok.count c.read.new.buf) c.from_residual.ensures.1
    (c.in_err-feed.ensures.cut c.loop.invariant.stands.0 _ c.loop.invariant.stands.1) c.loop.invariant.stands.2 c.in-Ok.ensures.bytes

pub returns-in_err-feed-clause-failed : goal.returns-in_err-feed-clause-failed
returns-in_err-feed-clause-failed g c =
    failed-in_piece c.from_residual.result c.in_err-feed.field-0.0 _ _ _ (g.W.Writer.written c.args.writer.now) (g.W.Writer.written c.feed.new.writer)
    c.loop.invariant.stands.0 (take c.in-Ok.count c.read.new.buf) c.from_residual.ensures.1
    (c.in_err-feed.ensures.cut c.loop.invariant.stands.0 _ c.loop.invariant.stands.1) (λ e. omega (arith, c.in_err-feed.ensures.write_failed (ap Err e)))

pub loop-preserved : goal.loop-preserved
loop-preserved g c = record {
  reads = omega arith;
  read = c.in-Ok.ensures.steady ∙ c.loop.invariant.read;
  write = c.in_ok-feed.ensures.steady ∙ c.loop.invariant.write;
  lines =
      let short : length (take c.in-Ok.count c.read.new.buf) ≤ 65536 = simp length-take (omega arith) in
      lines_fit_more _ _ _ _ c.in_ok-feed.ensures.lines c.loop.invariant.lines short;
  stands = (
    _,
    c.in_ok-feed.ensures.ok c.loop.invariant.stands.0 _ c.loop.invariant.stands.1,
    Consumes-trans _ _ _ c.loop.invariant.stands.0 (take c.in-Ok.count c.read.new.buf) c.loop.invariant.stands.2 c.in-Ok.ensures.bytes,
  );
}

pub returns-clause-stopped : goal.returns-clause-stopped
returns-clause-stopped g c = StopsAfter-now _ _ _ _ _ _ _ c.loop.invariant.stands.0 c.loop.invariant.stands.1 c.loop.invariant.stands.2 (Keeps-refl _)

-- At the end the open line is the last line, if it has bytes; else the ended lines are all.
use Rattle.ll_replay.specs.Stream.{come_to}
use Rattle.ll_replay.proofs.RunLemmas.{IfErr-handed}
use Rattle.ll_replay.proofs.StreamLemmas.{IsWhole-all_ended, IsWhole-last_line, end-cut, no_bytes, some_bytes}
use Rattle.ll_replay.proofs.stream.Stream.finish.Goals as goal
use Rattle.ll_replay.proofs.stream.Stream.finish.Goals.{then-not-is_empty+in_ok-take_line, else-not-is_empty}

pub returns-in_err-take_line-clause-cut : goal.returns-in_err-take_line-clause-cut
returns-in_err-take_line-clause-cut g c =
    let f = c.in_err-take_line.field-0.0 in
    IfErr-handed _ c.from_residual.result f c.from_residual.ensures.1 (λ bytes base s.
    end-cut f _ _ _ base _ _ bytes (some_bytes c.args.self.now.line.items c.if-not-is_empty.ensures) c.as_slice.ensures.value s
    (c.in_err-take_line.ensures.cut (come_to s.list) base s.stands))

pub returns-clause-whole : goal.returns-clause-whole
returns-clause-whole g c bytes base s =
    elim c.if-not-is_empty.branch [
      | then-not-is_empty+in_ok-take_line w ↦ rw w.writer-is (
          IsWhole-last_line _ w.as_slice.result.now _ _ base _ _ bytes c.summary.result
          (some_bytes c.args.self.now.line.items w.if-not-is_empty.ensures) w.as_slice.ensures.value s
          (w.in_ok-take_line.ensures.ok (come_to s.list) base s.stands)
          (λ v k. c.summary.ensures v base (g.W.Writer.written w.take_line.new.writer) (rw w.self-is k)))
      | else-not-is_empty w ↦ rw w.writer-is (
          IsWhole-all_ended _ _ base _ bytes c.summary.result (no_bytes c.args.self.now.line.items w.if-not-is_empty.ensures) s
          (λ v k. c.summary.ensures v base (g.W.Writer.written c.args.writer.now) (rw w.self-is k)))
    ]

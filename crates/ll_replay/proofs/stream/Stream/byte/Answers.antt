-- At LF the open line is one line more; any other byte is kept, or finds the line too long.
use Rattle.std.proofs.Common.{ap, ◌∙◌}
use Rattle.std.specs.Str.Lines.{strip_carriage_return}
use Rattle.ll_replay.specs.Stream.{come_to}
use Rattle.ll_replay.proofs.RunLemmas.{IfErr-handed}
use Rattle.ll_replay.proofs.StreamLemmas.{byte-full, byte-kept, lf-cut, lf-taken}
use Rattle.ll_replay.proofs.stream.Stream.byte.Goals as goal

pub returns-then-b-ne10-clause-ok : goal.returns-then-b-ne10-clause-ok
returns-then-b-ne10-clause-ok g c =
    byte-kept c.keep.result _ _ _ _ _ c.args.b c.if-b-ne10.true c.keep.ensures.kept c.keep.ensures.room c.keep.ensures.driver

pub returns-then-b-ne10-clause-cut : goal.returns-then-b-ne10-clause-cut
returns-then-b-ne10-clause-cut g c =
    byte-full c.keep.result _ _ _ c.args.b c.if-b-ne10.true c.keep.ensures.full c.keep.ensures.fault

pub returns-in_err-take_line-clause-cut : goal.returns-in_err-take_line-clause-cut
returns-in_err-take_line-clause-cut g c =
    let f = c.in_err-take_line.field-0.0 in
    IfErr-handed _ c.from_residual.result f c.from_residual.ensures.1 (λ bytes base s more.
    lf-cut f _ _ _ base _ _ bytes c.args.b more c.if-b-ne10.false
    (c.without_carriage_return-text.ensures ∙ ap strip_carriage_return c.as_slice.ensures.value) s
    (c.in_err-take_line.ensures.cut (come_to s.list) base s.stands))

pub returns-clause-ok : goal.returns-clause-ok
returns-clause-ok g c bytes base s =
    rw c.clear.ensures (lf-taken _ _ _ _ base _ _ bytes c.args.b c.if-b-ne10.false
    (c.without_carriage_return-text.ensures ∙ ap strip_carriage_return c.as_slice.ensures.value) s
    (c.in_ok-take_line.ensures.ok (come_to s.list) base s.stands))

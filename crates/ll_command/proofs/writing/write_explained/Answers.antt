-- What is wrong with the record up to the entry is written, or why it wasn't read; if that failed, a prefix.
use Rattle.std.proofs.Common.{◌≡◌, ◌<◌, ◌+◌, ◌^◌, Bool, Err, List, ℕ, ap, false, refl, true, ◌∙◌}
use Rattle.ll_check.specs.declared.source.RecordFault.TheVariants.{Wrong, Unread}
use Rattle.ll_command.proofs.CutLemmas.{line-cut, text-cut}
use Rattle.ll_command.proofs.FaultLemmas.{explained-wrong, read-endless, read-failed}
use Rattle.ll_explain.specs.Words.{IsExplanation}
use Rattle.ll_explain.specs.declared.explained.ExplainFault.TheVariants.{Record}
use Rattle.ll_command.proofs.writing.write_explained.Goals as goal

pub returns-in-Err-Record-Wrong-clause-written : goal.returns-in-Err-Record-Wrong-clause-written
returns-in-Err-Record-Wrong-clause-written g c input is =
    let w = c.in-Err-Record-Wrong in
    explained-wrong c.write_answer.result input c.args.entry w.fault (g.W.Writer.written c.args.out.now) (g.W.Writer.written c.write_answer.new.out)
    c.write_answer.ensures.written c.write_answer.ensures.told
    (c.explain.ensures.wrong input is (Wrong w.fault) (w.is ∙ ap Err (w.field-0-is ∙ ap Record w.field-0-0-is)))

pub returns-in-Err-Record-Unread-clause-read : goal.returns-in-Err-Record-Unread-clause-read
returns-in-Err-Record-Unread-clause-read g c =
    let u = c.in-Err-Record-Unread in
    read-failed u.fault (g.R.Reader.failures c.args.source.now < g.R.Reader.failures c.explain.new.source)
    (g.R.Reader.reads c.explain.new.source ≡ g.R.Reader.reads c.args.source.now + 2 ^ 32) c.read_fault.result c.read_fault.ensures
    (c.explain.ensures.stopped (Unread u.fault) (u.is ∙ ap Err (u.field-0-is ∙ ap Record u.field-0-0-is)))

pub returns-in-Err-Record-Unread-clause-endless : goal.returns-in-Err-Record-Unread-clause-endless
returns-in-Err-Record-Unread-clause-endless g c =
    let u = c.in-Err-Record-Unread in
    read-endless u.fault (g.R.Reader.failures c.args.source.now < g.R.Reader.failures c.explain.new.source)
    (g.R.Reader.reads c.explain.new.source ≡ g.R.Reader.reads c.args.source.now + 2 ^ 32) c.read_fault.result c.read_fault.ensures
    (c.explain.ensures.stopped (Unread u.fault) (u.is ∙ ap Err (u.field-0-is ∙ ap Record u.field-0-0-is)))

pub returns-in_err-write_out-in-Ok-text-clause-cut : goal.returns-in_err-write_out-in-Ok-text-clause-cut
returns-in_err-write_out-in-Ok-text-clause-cut g c input is =
    let e = c.in-Ok.explained in
    text-cut c.from_residual.result (λ (text : List ℕ). (x : Bool) × IsExplanation input c.args.entry x text) c.as_bytes.result.now
    (g.W.Writer.written c.args.out.now) (g.W.Writer.written c.write_out.new.out)
    (true, (e.time, e.line, e.reply, c.in-Ok.ensures.right input is, c.as_bytes.ensures.value ∙ c.in-Ok-text.ensures)) c.in_err-write_out-in-Ok-text.ensures.cut

pub returns-in-Err-Record-Wrong-clause-cut : goal.returns-in-Err-Record-Wrong-clause-cut
returns-in-Err-Record-Wrong-clause-cut g c input is =
    let w = c.in-Err-Record-Wrong in
    let found = c.explain.ensures.wrong input is (Wrong w.fault) (w.is ∙ ap Err (w.field-0-is ∙ ap Record w.field-0-0-is)) in
    line-cut c.write_answer.result (λ (text : List ℕ). (x : Bool) × IsExplanation input c.args.entry x text) w.fault
    (g.W.Writer.written c.args.out.now) (g.W.Writer.written c.write_answer.new.out)
    (λ other. (false, (w.fault, found.0.0 other, found.1, refl))) c.write_answer.ensures.cut (λ e. ap g.W.Writer.written (c.write_answer.ensures.none e))

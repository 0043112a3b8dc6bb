-- A prefix of the line of a wrong record was written.
use Rattle.std.proofs.Common.{◌≡◌, List, ℕ, ap, sym}
use Rattle.ll_check.specs.Answer.{answer_line}
use Rattle.ll_check.specs.Unread.{IsFaultOf}
use Rattle.ll_check.specs.declared.source.RecordFault.TheVariants.{Wrong}
use Rattle.ll_command.proofs.CutLemmas.{line-cut}
use Rattle.ll_entry.specs.Chain.{checked}
use Rattle.ll_command.proofs.writing.write_checked.Goals as goal

pub returns-in-Err-Wrong-clause-cut : goal.returns-in-Err-Wrong-clause-cut
returns-in-Err-Wrong-clause-cut g c input is =
    let w = c.in-Err-Wrong in
    let fault : IsFaultOf input (Wrong w.fault) = rw w.field-0-is at (w.ensures.wrong input is) in
    line-cut c.write_answer-in-Err-Wrong.result (λ (text : List ℕ). text ≡ answer_line (checked input)) w.fault
    (g.W.Writer.written c.args.out.now) (g.W.Writer.written c.write_answer-in-Err-Wrong.new.out)
    (λ other. ap answer_line (sym (fault.0 other))) c.write_answer-in-Err-Wrong.ensures.cut (λ e. ap g.W.Writer.written (c.write_answer-in-Err-Wrong.ensures.none e))

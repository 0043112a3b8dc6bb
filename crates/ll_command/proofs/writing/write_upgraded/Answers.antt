-- What a fault of the second reading says.
use Rattle.std.proofs.Common.{◌≡◌, ◌<◌, ◌+◌, ◌^◌, Err, ap, inr, ◌∙◌}
use Rattle.ll_command.proofs.CutLemmas.{none-cut, right-cut, wrong-cut}
use Rattle.ll_command.proofs.FaultLemmas.{changed, changed-endless, changed-failed}
use Rattle.ll_check.specs.Answer.{upgrade_answer}
use Rattle.ll_entry.specs.Chain.{checked}
use Rattle.ll_explain.specs.Upgrade.{upgraded}
use Rattle.ll_command.proofs.writing.write_upgraded.Goals as goal

pub returns-in-Err-Record-clause-changed : goal.returns-in-Err-Record-clause-changed
returns-in-Err-Record-clause-changed g c input is =
    let f = c.in-Err-Record in
    changed f.fault input c.changed_fault.result c.changed_fault.ensures (c.upgrade.ensures.wrong input is f.fault (f.is ∙ ap Err f.field-0-is))

pub returns-in-Err-Record-clause-read : goal.returns-in-Err-Record-clause-read
returns-in-Err-Record-clause-read g c = λ e.
    let f = c.in-Err-Record in
    inr (changed-failed f.fault (g.S.Reader.failures c.args.again.now < g.S.Reader.failures c.upgrade.new.source)
    (g.S.Reader.reads c.upgrade.new.source ≡ g.S.Reader.reads c.args.again.now + 2 ^ 32) c.changed_fault.result c.changed_fault.ensures
    (c.upgrade.ensures.stopped f.fault (f.is ∙ ap Err f.field-0-is)) e)

pub returns-in-Err-Record-clause-endless : goal.returns-in-Err-Record-clause-endless
returns-in-Err-Record-clause-endless g c = λ e.
    let f = c.in-Err-Record in
    inr (changed-endless f.fault (g.S.Reader.failures c.args.again.now < g.S.Reader.failures c.upgrade.new.source)
    (g.S.Reader.reads c.upgrade.new.source ≡ g.S.Reader.reads c.args.again.now + 2 ^ 32) c.changed_fault.result c.changed_fault.ensures
    (c.upgrade.ensures.stopped f.fault (f.is ∙ ap Err f.field-0-is)) e)

pub returns-in-Err-Wrong-clause-cut : goal.returns-in-Err-Wrong-clause-cut
returns-in-Err-Wrong-clause-cut g c input next is then =
    let w = c.in-Err-Wrong in
    wrong-cut c.write_answer.result input (upgraded next) w.fault (g.W.Writer.written c.args.out.now) (g.W.Writer.written c.write_answer.new.out)
    c.write_answer.ensures.cut (λ e. ap g.W.Writer.written (c.write_answer.ensures.none e)) (rw w.field-0-is at (w.ensures.wrong input is))

pub returns-in-Err-Unread-clause-cut : goal.returns-in-Err-Unread-clause-cut
returns-in-Err-Unread-clause-cut g c input next is then = none-cut (g.W.Writer.written c.args.out.now) (upgrade_answer (checked input) (upgraded next))

pub returns-in-Err-Write-clause-cut : goal.returns-in-Err-Write-clause-cut
returns-in-Err-Write-clause-cut g c input next is then =
    right-cut input (upgraded next) c.in-Ok.field-0 (g.W.Writer.written c.args.out.now) (g.W.Writer.written c.upgrade.new.out) (c.in-Ok.ensures.value input is)
    (c.in-Err-Write.ensures.cut next then)

pub returns-in-Err-Record-clause-cut : goal.returns-in-Err-Record-clause-cut
returns-in-Err-Record-clause-cut g c input next is then =
    right-cut input (upgraded next) c.in-Ok.field-0 (g.W.Writer.written c.args.out.now) (g.W.Writer.written c.upgrade.new.out) (c.in-Ok.ensures.value input is)
    (c.in-Err-Record.ensures.cut next then)

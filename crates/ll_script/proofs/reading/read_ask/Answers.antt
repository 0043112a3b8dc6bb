-- A request whose target is out of memory is answered so, unless there is no such channel.
use Rattle.std.proofs.Common.{Err, ap, subst}
use Rattle.std.specs.Prelude.{IsOk}
use Rattle.ll_directive.specs.Targets.{want_in}
use Rattle.ll_script.proofs.ReadingLemmas.{unread-ask}
use Rattle.ll_script.proofs.reading.read_ask.Goals as goal

pub returns-in-Err-Memory : goal.returns-in-Err-Memory
returns-in-Err-Memory c =
    let some = subst (λ t. IsOk (want_in t)) c.as_bytes.ensures.value (c.in-Err-Memory.ensures.memory (ap Err c.in-Err-Memory.field-0-is)) in
    unread-ask c.args.declared.now c.args.id (want_in c.args.target.now) c.unread_fault.result some c.unread_fault.ensures

-- A line that is neither passed over nor a publisher's is read as a text.
use Rattle.std.proofs.Common.{subst, sym}
use Rattle.ll_script.specs.Reads.{IsRead}
use Rattle.ll_script.proofs.ReadingLemmas.{acts-other, acts-raw}
use Rattle.ll_script.proofs.reading.read_any.Goals as goal

pub returns-in-Ok : goal.returns-in-Ok
returns-in-Ok c =
    let read = c.in-Ok.ensures.cases in
    let is = acts-other c.args.declared.now c.args.last c.args.line.now c.in-Ok.text.now (sym c.if-is_passed_over.ensures) c.in_default.ensures (sym read.0) read.1 in
    subst (λ a. IsRead c.args.declared.now a c.read_other.result) (sym is) c.read_other.ensures

pub returns-in-Err : goal.returns-in-Err
returns-in-Err c =
    acts-raw c.args.declared.now c.args.last c.args.line.now (sym c.if-is_passed_over.ensures) c.in_default.ensures c.in-Err.ensures.cases.0

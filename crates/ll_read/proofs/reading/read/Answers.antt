-- Text that begins like a playlist is read line by line.
use Rattle.std.proofs.Common.{◌≡◌, Ok, Err, IsOk, IfOk, IfErr, IsErrOf, subst}
use Rattle.ll_read.specs.declared.fault.ReadFault.TheVariants.{Memory}
use Rattle.ll_read.proofs.Begins.{begun, not_text}
use Rattle.ll_read.proofs.reading.read.Goals as goal

pub returns-in_default-clause-refused : goal.returns-in_default-clause-refused
returns-in_default-clause-refused c = λ no. not_text c.args.bytes.now c.in_default.ensures.cases.0

pub returns-then-eq-clause-value : goal.returns-then-eq-clause-value
returns-then-eq-clause-value c =
    subst (λ w. IfOk c.read_lines.result (λ p. w ≡ Ok p))
    (begun c.in-Ok.text.now c.args.bytes.now c.first.result.now c.in-Ok.ensures.cases.0 c.in-Ok.ensures.cases.1 c.first.ensures c.if-eq.ensures) c.read_lines.ensures.value

pub returns-then-eq-clause-refused : goal.returns-then-eq-clause-refused
returns-then-eq-clause-refused c =
    subst (λ w. IfErr c.read_lines.result (λ fault. (fault ≡ Memory → ⊥) → w ≡ Err fault))
    (begun c.in-Ok.text.now c.args.bytes.now c.first.result.now c.in-Ok.ensures.cases.0 c.in-Ok.ensures.cases.1 c.first.ensures c.if-eq.ensures) c.read_lines.ensures.refused

pub returns-then-eq-clause-memory : goal.returns-then-eq-clause-memory
returns-then-eq-clause-memory c =
    subst (λ w. IsErrOf c.read_lines.result Memory → IsOk w)
    (begun c.in-Ok.text.now c.args.bytes.now c.first.result.now c.in-Ok.ensures.cases.0 c.in-Ok.ensures.cases.1 c.first.ensures c.if-eq.ensures) c.read_lines.ensures.memory

-- What is read is spelled so, by the place of the point.
use Rattle.std.proofs.Common.{sym, arith, ◌∙◌}
use Rattle.std.proofs.lemmas.Slice.Eq.{bytes_eq-Decides}
use Rattle.ll_format.proofs.Durations.{duration_some, duration_none, duration_uncut}
use Rattle.ll_format.proofs.value.duration.Goals as goal
use Rattle.ll_format.proofs.value.duration.Goals.{else-eq-via-then-eq+else-fraction-eq6, else-eq-via-else-eq}

pub returns-in_err-whole : goal.returns-in_err-whole
returns-in_err-whole c =
    c.from_residual-in_err-whole.ensures
    ∙ duration_uncut c.args.text.now c.in_ok-micros.micros (sym c.in_ok-micros.ensures.value) c.in_err-whole.ensures.parts (omega arith)

pub returns-then-fraction-eq6 : goal.returns-then-fraction-eq6
returns-then-fraction-eq6 c =
    duration_some c.args.text.now c.in_ok-whole.whole.now c.in_ok-whole.fraction.now c.in_ok-micros.micros (sym c.in_ok-micros.ensures.value) c.in_ok-whole.ensures.parts
    (omega arith) (sym c.format.ensures.text ∙ (bytes_eq-Decides c.format.result.now c.in_ok-whole.whole.now).0 (sym c.if-eq.ensures)) c.if-fraction-eq6.true

pub returns-else-eq : goal.returns-else-eq
returns-else-eq c =
    let none = duration_none c.args.text.now c.in_ok-whole.whole.now c.in_ok-whole.fraction.now c.in_ok-micros.micros (sym c.in_ok-micros.ensures.value) c.in_ok-whole.ensures.parts (omega arith) in
    elim c.else-eq.branch [
      | else-eq-via-then-eq+else-fraction-eq6 w ↦ none (λ whole six. w.if-fraction-eq6.false six)
      | else-eq-via-else-eq w ↦ none (λ whole six. let yes = (bytes_eq-Decides c.format.result.now c.in_ok-whole.whole.now).1 (c.format.ensures.text ∙ whole) in let no = w.if-eq.ensures in cc)
    ]

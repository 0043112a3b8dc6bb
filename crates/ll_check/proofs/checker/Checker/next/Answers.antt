-- The next lines of a text that nothing follows: if fewer end than come next, one is missing.
use Rattle.std.proofs.Common.{◌≡◌, ◌≢◌, ◌+◌, ◌∙◌, [], Err, true, ap, refl, rules, sym, true≢false}
use Rattle.ll_attr.specs.Words.{pieces_at}
use Rattle.ll_check.proofs.LaterLemmas.{later-as}
use Rattle.ll_check.proofs.Whole.{moves-alone, over-wrong, result-alone}
use Rattle.ll_check.specs.Found as found
use Rattle.ll_check.specs.Lines.{IsShort}
use Rattle.ll_entry.specs.Chain.{checked_from, not_before}
use Rattle.ll_entry.specs.declared.fault.CheckKind.TheVariants.{BadChunk, Memory}
use Rattle.ll_check.proofs.checker.Checker.next.Goals as goal
use Rattle.ll_check.proofs.checker.Checker.next.Goals.{else-is_empty-via-then-is_empty+else-not-is_inside, else-is_empty-via-else-is_empty}

pub returns-in_err-step-clause-wrong : goal.returns-in_err-step-clause-wrong
returns-in_err-step-clause-wrong c p there =
    let f = c.in_err-step.field-0.0 in
    let fact : f.kind ≢ Memory → checked_from p (pieces_at 10 c.args.text.now) ≡ Err f = λ kind.
    result-alone (λ r. r ≡ Err f) p c.args.text.now (c.in_err-step.ensures.wrong p [] there kind) in
    search (rules, fact)

pub returns-in_err-step-clause-memory : goal.returns-in_err-step-clause-memory
returns-in_err-step-clause-memory c p there =
    let f = c.in_err-step.field-0.0 in
    let fact : not_before f.entry (checked_from p (pieces_at 10 c.args.text.now)) ≡ true =
    result-alone (λ r. not_before f.entry r ≡ true) p c.args.text.now (c.in_err-step.ensures.memory p [] there) in
    search (rules, fact)

pub returns-in-Some-clause-right : goal.returns-in-Some-clause-right
returns-in-Some-clause-right c p there =
    moves-alone c.step.new.self p c.in-Some.step.0 c.args.text.now c.in-Some.step.1.now (rw c.in-Some.is at (c.in_ok-step.ensures.right p [] there))

pub returns-in-None-clause-wrong : goal.returns-in-None-clause-wrong
returns-in-None-clause-wrong c p there _ =
    let s : IsShort c.args.self.now c.step.new.self p c.args.text.now = rw c.in-None.is at (c.in_ok-step.ensures.right p [] there) in
    over-wrong p c.args.text.now s.short (λ between none. elim c.else-is_empty.branch [
      | else-is_empty-via-then-is_empty+else-not-is_inside w ↦
          true≢false (sym (sym w.is_inside.ensures ∙ w.if-not-is_inside.false) ∙ ap found.is_inside c.self.view_is ∙ there.inside ∙ between)
      | else-is_empty-via-else-is_empty w ↦ search (rules, none, c.is_empty.ensures, w.if-is_empty)
    ])
    ∙ ap (λ n. Err (record { entry = n + 1; kind = BadChunk })) (sym (c.entries-entry.ensures.value p there))

pub returns-in-None-clause-memory : goal.returns-in-None-clause-memory
returns-in-None-clause-memory c p there =
    later-as (c.entries-entry.result + 1) p (pieces_at 10 c.args.text.now) (checked_from p (pieces_at 10 c.args.text.now)) refl
    (ap (λ n. n + 1) (c.entries-entry.ensures.value p there))

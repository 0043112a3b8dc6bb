-- A line is missing inside of a chunk, or after a text that isn't empty.
use Rattle.std.proofs.Common.{Err, ap, sym, ◌∙◌, ◌+◌, true≢false, rules}
use Rattle.ll_check.proofs.Whole.{over-wrong}
use Rattle.ll_check.specs.Found as found
use Rattle.ll_entry.specs.Chain.{counted}
use Rattle.ll_entry.specs.declared.fault.CheckKind.TheVariants.{BadChunk}
use Rattle.ll_check.proofs.checker.Checker.end.Goals as goal
use Rattle.ll_check.proofs.checker.Checker.end.Goals.{else-is_empty-via-then-is_empty+else-not-is_inside, else-is_empty-via-else-is_empty}

pub returns-clause-value : goal.returns-clause-value
returns-clause-value c p there short =
    ap (λ n. Err (record { entry = n + 1; kind = BadChunk })) (c.entries.ensures.value p there)
    ∙ sym (ap counted (over-wrong p c.args.rest.now short (λ between none. elim c.else-is_empty.branch [
      | else-is_empty-via-then-is_empty+else-not-is_inside w ↦
          true≢false (sym (sym w.is_inside.ensures ∙ w.if-not-is_inside.false) ∙ ap found.is_inside c.self.view_is ∙ there.inside ∙ between)
      | else-is_empty-via-else-is_empty w ↦ search (rules, none, c.is_empty.ensures, w.if-is_empty)
    ])))

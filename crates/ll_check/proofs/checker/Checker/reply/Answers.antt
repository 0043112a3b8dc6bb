-- What is found is found at the entry after those so far.
use Rattle.std.proofs.Common.{IfErr, ap, ◌+◌, ◌++◌, subst, sym, true, refl, ◌≡◌}
use Rattle.ll_attr.specs.Words.{pieces_at}
use Rattle.ll_check.proofs.LaterLemmas.{later-as}
use Rattle.ll_entry.specs.Chain.{checked_from, not_before}
use Rattle.ll_entry.specs.declared.fault.CheckFault.{CheckFault}
use Rattle.ll_check.proofs.checker.Checker.reply.Goals as goal
use Rattle.ll_check.proofs.checker.Checker.reply.Goals.{in-Ok, in-Err}

pub returns-clause-memory : goal.returns-clause-memory
returns-clause-memory c p more at =
    let lines = pieces_at 10 (c.args.text.now ++ more) in
    let found = checked_from p lines in
    elim c.match-next_reply.branch [
      | in-Ok w ↦ subst (λ r. IfErr r (λ (f : CheckFault). not_before f.entry found ≡ true)) (sym w.result-is) tt
      | in-Err w ↦ subst (λ r. IfErr r (λ (f : CheckFault). not_before f.entry found ≡ true)) (sym w.result-is)
          (later-as (c.entries-entry.result + 1) p lines found refl (ap (λ n. n + 1) (c.entries-entry.ensures.value p at)))
    ]

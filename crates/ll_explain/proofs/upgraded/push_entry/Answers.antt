-- The line that is written for a request, or for a reply.
use Rattle.std.proofs.Common.{OnOk, ap₂, ◌++◌, ◌≡◌, ◌∙◌, subst, sym}
use Rattle.ll_explain.proofs.UpgradedLemmas.{added}
use Rattle.ll_explain.specs.Upgrade.{upgraded_line}
use Rattle.ll_explain.proofs.upgraded.push_entry.Goals as goal

pub returns-in_ok-ask_line-in-One-Ask-clause-line : goal.returns-in_ok-ask_line-in-One-Ask-clause-line
returns-in_ok-ask_line-in-One-Ask-clause-line c s =
    let push = c.extend_from_slice-in-One-Ask in
    subst (λ t. OnOk push.result (push.new.self.items ≡ c.args.text.now.items ++ t))
    (c.as_bytes-in-One-Ask.ensures.value ∙ c.in_ok-ask_line-in-One-Ask.ensures.text s ∙ sym (ap₂ (λ v e. upgraded_line v s c.args.line.now e) c.in-One-Ask.is-0 c.in-One-Ask.is-1))
    (added push.result push.new.self.items _ _ push.ensures.items)

pub returns-in-One-Collect-clause-line : goal.returns-in-One-Collect-clause-line
returns-in-One-Collect-clause-line c s =
    let push = c.extend_from_slice-in-One-Collect in
    subst (λ t. OnOk push.result (push.new.self.items ≡ c.args.text.now.items ++ t))
    (c.as_bytes-in-One-Collect.ensures.value ∙ c.deref.ensures.0 ∙ c.collect_line.ensures.text s
    ∙ sym (ap₂ (λ v e. upgraded_line v s c.args.line.now e) c.in-One-Collect.is-0 c.in-One-Collect.is-1))
    (added push.result push.new.self.items _ _ push.ensures.items)

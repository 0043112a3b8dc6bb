-- Nothing is kept at first, each step keeps what its lines say, and what was passed is right.
use Rattle.std.proofs.Common.{◌≡◌, None, Ok, ap, sym, ◌∙◌}
use Rattle.ll_attr.specs.Words.{pieces_at}
use Rattle.ll_check.specs.Found.{IsAt}
use Rattle.ll_check.specs.Steps.{IsOver}
use Rattle.ll_entry.specs.Chain.{Between, Position, counted}
use Rattle.ll_multivariant.proofs.KeepLemmas.{Keeps, keeps-all, keeps-first, keeps-next, keeps-some, ok-of}
use Rattle.ll_multivariant.specs.Keeping.{AddsTold}
use Rattle.ll_multivariant.proofs.kept.last_chain_by.Goals as goal
use Rattle.ll_multivariant.proofs.kept.last_chain_by.Goals.{Else-is_err}

on : (c : Else-is_err) → Keeps c.next.new.self (pieces_at 10 c.args.chunks.now) (pieces_at 10 c.in-Some.more.now) c.add.new.self
on c =
    let added : AddsTold c.lines.kept c.add.new.self c.in-Some.told = ok-of c.add.result _ (sym c.is_err.ensures.value ∙ c.if-is_err.false) c.add.ensures in
    keeps-next c.lines.checker c.next.new.self c.in-Some.told (pieces_at 10 c.args.chunks.now) (pieces_at 10 c.lines.rest.now) c.in-Some.more.now c.lines.kept c.add.new.self
    c.lines.invariant (λ q at. rw c.in-Some.is at (c.in_ok-told.ensures.right q at)) added

pub lines-init : goal.lines-init
lines-init c =
    keeps-first c.args.checker.now (pieces_at 10 c.args.chunks.now) _ c.requires (ap (λ ps. record { settings = None; additions = ps }) c.new.ensures.items)

pub lines-preserved : goal.lines-preserved
lines-preserved c = on (goal.at.lines-preserved c).Else-is_err

pub lines-preserved-else-is_err : goal.lines-preserved-else-is_err
lines-preserved-else-is_err c = on (goal.at.lines-preserved-else-is_err c).Else-is_err

pub lines-preserved-else-is_err-2 : goal.lines-preserved-else-is_err-2
lines-preserved-else-is_err-2 c = on (goal.at.lines-preserved-else-is_err-2 c).Else-is_err

pub returns-clause-kept : goal.returns-clause-kept
returns-clause-kept c =
    let over : (q : Position) → IsAt c.lines.checker q → IsOver c.lines.checker c.next.new.self q c.lines.rest.now = λ q at. rw c.in_default.is at (c.in_ok-told.ensures.right q at) in
    let k = keeps-all c.lines.checker c.next.new.self (pieces_at 10 c.args.chunks.now) c.lines.rest.now c.lines.kept c.lines.invariant over in
    let some : counted (Ok k.0) ≡ Ok c.in_ok-count.field-0 = sym (c.count.ensures (Between k.0) k.1) ∙ c.in_ok-count.was in
    keeps-some (pieces_at 10 c.args.chunks.now) c.lines.kept k.0 c.in_ok-count.field-0 some k.2 k.3

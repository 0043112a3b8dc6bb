-- The last word stands after the last space.
use Rattle.std.proofs.Common.{◌≡◌, MatchOption, None, Some, subst, sym}
use Rattle.ll_item.proofs.LastWord.{told-has, told-none, told-not}
use Rattle.ll_item.specs.Announced as spec
use Rattle.ll_item.proofs.item_bytes.told_bytes.Goals as goal

pub returns-in_err-item : goal.returns-in_err-item
returns-in_err-item c =
    let told = spec.told_bytes c.args.line.now in
    subst (λ r. MatchOption r (told ≡ None) (λ t. told ≡ Some (t.0.now, t.1.now))) (sym c.from_residual.ensures) (told-none c.args.line.now c.in_err-item.ensures)

pub returns-then-has_bytes : goal.returns-then-has_bytes
returns-then-has_bytes c = told-has c.args.line.now c.in_ok-item.item.now c.in_ok-item.last.now c.in_ok-item.ensures c.if-has_bytes.ensures

pub returns-else-has_bytes : goal.returns-else-has_bytes
returns-else-has_bytes c = told-not c.args.line.now c.in_ok-item.item.now c.in_ok-item.last.now c.in_ok-item.ensures c.if-has_bytes.ensures

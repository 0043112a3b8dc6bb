-- The row of the first number of this owner.
use Rattle.std.proofs.Common.{◌≡◌, ℕ, ◌<◌, Some, ◌∙◌, ap, false, option_map, subst, sym}
use Rattle.ll_book.specs.Places.{IsNext, stands}
use Rattle.ll_script_rooms.specs.Book.{wait_in}
use Rattle.ll_script_rooms.specs.Spots.{spot}
use Rattle.ll_script_rooms.specs.Waits.{wait_of}
use Rattle.ll_script_rooms.proofs.BookLemmas.{none_owned, row_owned}
use Rattle.ll_script_rooms.proofs.held.Held.of.Goals as goal

pub returns-in_err-number : goal.returns-in_err-number
returns-in_err-number c =
    c.from_residual.ensures ∙ sym (none_owned _ _ _ _ c.self.invariant c.args.owner
    (subst (λ (k : ℕ × ℕ). (n : ℕ) → 0 < n → stands c.self.inside.owners (spot k.0 k.1 n) ≡ false) c.key-kind.ensures c.in_err-number.ensures.none)) ∙ ap (wait_of c.args.owner) c.self.view_is

pub returns-in_err-row : goal.returns-in_err-row
returns-in_err-row c =
    c.from_residual-in_err-row.ensures ∙ ap (option_map wait_in) c.in_err-row.ensures.value
    ∙ sym (row_owned _ _ _ _ c.self.invariant c.args.owner c.in_ok-number.number
    (subst (λ (k : ℕ × ℕ). IsNext (spot k.0 k.1 0) (spot k.0 k.1 c.in_ok-number.number) c.self.inside.owners) c.key-kind.ensures c.in_ok-number.ensures.some)) ∙ ap (wait_of c.args.owner) c.self.view_is

pub returns : goal.returns
returns c =
    ap Some c.wait.ensures ∙ ap (option_map wait_in) c.in_ok-row.ensures.value
    ∙ sym (row_owned _ _ _ _ c.self.invariant c.args.owner c.in_ok-number.number
    (subst (λ (k : ℕ × ℕ). IsNext (spot k.0 k.1 0) (spot k.0 k.1 c.in_ok-number.number) c.self.inside.owners) c.key-kind.ensures c.in_ok-number.ensures.some)) ∙ ap (wait_of c.args.owner) c.self.view_is

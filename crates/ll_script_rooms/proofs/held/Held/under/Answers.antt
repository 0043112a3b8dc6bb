-- The row of the first number at this place under this ticket.
use Rattle.std.proofs.Common.{Some, ◌∙◌, ap, option_map, sym}
use Rattle.ll_script_rooms.specs.Book.{wait_in}
use Rattle.ll_script_rooms.specs.Waits.{under}
use Rattle.ll_script_rooms.proofs.BookLemmas.{none_under, row_under}
use Rattle.ll_script_rooms.proofs.held.Held.under.Goals as goal

pub returns-in_err-number : goal.returns-in_err-number
returns-in_err-number c =
    c.from_residual.ensures ∙ sym (none_under _ _ _ _ c.self.invariant c.args.place c.args.ticket c.in_err-number.ensures.none) ∙ ap (under c.args.place c.args.ticket) c.self.view_is

pub returns-in_err-row : goal.returns-in_err-row
returns-in_err-row c =
    c.from_residual-in_err-row.ensures ∙ ap (option_map wait_in) c.in_err-row.ensures.value
    ∙ sym (row_under _ _ _ _ c.self.invariant c.args.place c.args.ticket c.in_ok-number.number c.in_ok-number.ensures.some) ∙ ap (under c.args.place c.args.ticket) c.self.view_is

pub returns : goal.returns
returns c =
    ap Some c.wait.ensures ∙ ap (option_map wait_in) c.in_ok-row.ensures.value
    ∙ sym (row_under _ _ _ _ c.self.invariant c.args.place c.args.ticket c.in_ok-number.number c.in_ok-number.ensures.some) ∙ ap (under c.args.place c.args.ticket) c.self.view_is

-- The reply of a ticket is that of the request of this ticket.
use Rattle.std.proofs.Common.{◌∙◌, ap, false, find, option_map, sym, true}
use Rattle.std.specs.Option.{option_copied}
use Rattle.ll_verdict.specs.Waiting.{entry_in, is_ready_at}
use Rattle.ll_book.proofs.SlotLemmas.{entry_nowhere, entry_ready}
use Rattle.ll_book.proofs.book.Book.find_ready.Goals as goal

pub returns-in-Some : goal.returns-in-Some
returns-in-Some c =
    entry_ready c.args.ticket c.in-Some.slot.now c.self.inside.slots true c.self.invariant.rising c.in-Some.ensures (sym c.is_some.ensures ∙ c.if-is_some.true)
    ∙ ap (λ ss. option_map entry_in (find (is_ready_at c.args.ticket) ss)) c.self.view_is

pub returns-in_default : goal.returns-in_default
returns-in_default c =
    entry_ready c.args.ticket c.in-Some.slot.now c.self.inside.slots false c.self.invariant.rising c.in-Some.ensures (sym c.is_some.ensures ∙ c.if-is_some.false)
    ∙ ap (λ ss. option_map entry_in (find (is_ready_at c.args.ticket) ss)) c.self.view_is

pub returns-in_default-2 : goal.returns-in_default-2
returns-in_default-2 c =
    entry_nowhere c.args.ticket c.self.inside.slots c.self.invariant.rising (sym (ap option_copied c.in_default.is) ∙ c.get.ensures)
    ∙ ap (λ ss. option_map entry_in (find (is_ready_at c.args.ticket) ss)) c.self.view_is

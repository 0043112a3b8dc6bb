-- What is taken out under a ticket is the request of this ticket.
use Rattle.std.proofs.Common.{◌∙◌, ap, find, sym, subst}
use Rattle.std.specs.Map.{values_of}
use Rattle.ll_book.specs.Numbers.{AreKeyed}
use Rattle.ll_book.proofs.Keyed.{keyed_left, looked_up, taken_out}
use Rattle.ll_verdict.specs.Waiting.{has_ticket, ticket_in, without}
use Rattle.ll_book.proofs.slots.Slots.remove.Goals as goal

pub invariant_of-self : goal.invariant_of-self
invariant_of-self c = subst (AreKeyed ticket_in 0) (sym c.remove.ensures.entries) (keyed_left ticket_in c.args.ticket 0 c.self.inside.under.entries c.self.invariant)

pub returns-clause-value : goal.returns-clause-value
returns-clause-value c = c.remove.ensures.value ∙ looked_up ticket_in c.args.ticket 0 c.self.inside.under.entries c.self.invariant ∙ ap (find (has_ticket c.args.ticket)) c.self.view_is

pub returns-clause-left : goal.returns-clause-left
returns-clause-left c =
    ap values_of c.remove.ensures.entries ∙ taken_out ticket_in c.args.ticket 0 c.self.inside.under.entries c.self.invariant ∙ ap (without c.args.ticket) c.self.view_is

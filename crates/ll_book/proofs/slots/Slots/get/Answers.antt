-- What stands under a ticket is the request of this ticket.
use Rattle.std.proofs.Common.{◌∙◌, ap, find}
use Rattle.ll_book.proofs.Keyed.{looked_up}
use Rattle.ll_verdict.specs.Waiting.{has_ticket, ticket_in}
use Rattle.ll_book.proofs.slots.Slots.get.Goals as goal

pub returns : goal.returns
returns c = c.get.ensures.value ∙ looked_up ticket_in c.args.ticket 0 c.self.inside.under.entries c.self.invariant ∙ ap (find (has_ticket c.args.ticket)) c.self.view_is

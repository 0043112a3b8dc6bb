-- The slot of a ticket gets its reply, if there is one.
use Rattle.std.proofs.Common.{◌∙◌, ap, refl}
use Rattle.ll_book.specs.Numbers.{changed}
use Rattle.ll_book.proofs.Keyed.{keyed_changed}
use Rattle.ll_verdict.specs.Waiting.{ticket_in}
use Rattle.ll_book.specs.Orders.{settle_with}
use Rattle.ll_book.proofs.slots.Slots.settle.Goals as goal

pub invariant_of-self : goal.invariant_of-self
invariant_of-self c =
    (keyed_changed ticket_in (settle_with c.args.settled) (λ s. refl) c.args.ticket c.self.inside.under.entries c.settle.new.under.entries c.self.invariant c.settle.ensures.settled c.settle.ensures.none).0

pub returns : goal.returns
returns c =
    (keyed_changed ticket_in (settle_with c.args.settled) (λ s. refl) c.args.ticket c.self.inside.under.entries c.settle.new.under.entries c.self.invariant c.settle.ensures.settled c.settle.ensures.none).1
    ∙ ap (changed ticket_in c.args.ticket (settle_with c.args.settled)) c.self.view_is

-- A slot of a new ticket stands last.
use Rattle.std.proofs.Common.{◌∙◌, ◌++◌, ◌∷◌, [], ap, sym, subst}
use Rattle.std.specs.Map.{values_of}
use Rattle.ll_book.specs.Numbers.{AreKeyed}
use Rattle.ll_book.proofs.Keyed.{keyed_pushed, pushed}
use Rattle.ll_verdict.specs.Waiting.{AreBelow, ticket_in}
use Rattle.ll_book.proofs.SlotLemmas.{under}
use Rattle.ll_book.proofs.slots.Slots.push.Goals as goal

pub invariant_of-self-2 : goal.invariant_of-self-2
invariant_of-self-2 c =
    subst (AreKeyed ticket_in 0) (sym c.in_ok-put.ensures.put)
    (keyed_pushed ticket_in 0 c.args.slot c.self.inside.under.entries c.requires.first c.self.invariant
    (under c.args.slot.entry.ticket _ (subst (AreBelow c.args.slot.entry.ticket) (sym c.self.view_is) c.requires.newest)))

pub returns-clause-pushed : goal.returns-clause-pushed
returns-clause-pushed c =
    ap values_of c.in_ok-put.ensures.put
    ∙ pushed ticket_in 0 c.args.slot c.self.inside.under.entries c.self.invariant (under c.args.slot.entry.ticket _ (subst (AreBelow c.args.slot.entry.ticket) (sym c.self.view_is) c.requires.newest))
    ∙ ap (λ ss. ss ++ c.args.slot ∷ []) c.self.view_is

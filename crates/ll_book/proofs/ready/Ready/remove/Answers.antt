-- The ticket's place is found, if it is there.
use Rattle.std.proofs.Common.{◌∙◌, Ok, Err, ap, sym, subst}
use Rattle.std.proofs.lemmas.List.Sorted.{searched}
use Rattle.ll_book.specs.Numbers.{AreRising, all_but}
use Rattle.ll_book.proofs.Finds.{rising_but}
use Rattle.ll_book.proofs.Keyed.{none_but}
use Rattle.ll_book.specs.Orders.{Kept}
use Rattle.ll_book.proofs.ReadyLemmas.{absent, itself_of, left_at, no_fall}
use Rattle.ll_book.proofs.ready.Ready.remove.Goals as goal

pub invariant_of-self : goal.invariant_of-self
invariant_of-self c =
    let at = searched c.self.inside.tickets.items c.args.ticket (Ok c.in-Ok.place) c.in-Ok.ensures.position (λ i j le lt. no_fall 0 c.self.inside.tickets.items i j c.self.invariant le lt) in
    subst (AreRising itself_of 0) (sym (c.in-Some.ensures.items ∙ left_at 0 c.args.ticket c.in-Ok.place c.self.inside.tickets.items c.self.invariant at.0 at.1))
    (rising_but itself_of c.args.ticket 0 c.self.inside.tickets.items c.self.invariant)

pub returns-in-Some-clause-tickets : goal.returns-in-Some-clause-tickets
returns-in-Some-clause-tickets c =
    let at = searched c.self.inside.tickets.items c.args.ticket (Ok c.in-Ok.place) c.in-Ok.ensures.position (λ i j le lt. no_fall 0 c.self.inside.tickets.items i j c.self.invariant le lt) in
    c.in-Some.ensures.items ∙ left_at 0 c.args.ticket c.in-Ok.place c.self.inside.tickets.items c.self.invariant at.0 at.1
    ∙ ap (λ (k : Kept). all_but itself_of c.args.ticket k.tickets) c.self.view_is

pub returns-in_default-clause-tickets : goal.returns-in_default-clause-tickets
returns-in_default-clause-tickets c =
    let at = searched c.self.inside.tickets.items c.args.ticket (Err c.in_default.field-0) c.in_default.ensures.position (λ i j le lt. no_fall 0 c.self.inside.tickets.items i j c.self.invariant le lt) in
    ap (λ (k : Kept). k.tickets) (sym c.self.view_is)
    ∙ sym (none_but itself_of c.args.ticket c.self.inside.tickets.items (absent c.args.ticket c.in_default.field-0 c.self.inside.tickets.items at.1 at.2))
    ∙ ap (λ (k : Kept). all_but itself_of c.args.ticket k.tickets) c.self.view_is

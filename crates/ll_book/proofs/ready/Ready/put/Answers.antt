-- A ticket goes to its place, unless it is there.
use Rattle.std.proofs.Common.{◌∙◌, ◌==◌, Ok, Err, Some, ap, cond, find, sym, subst}
use Rattle.std.proofs.lemmas.List.Sorted.{searched}
use Rattle.ll_book.specs.Numbers.{AreRising, has_number}
use Rattle.ll_book.specs.Orders.{Kept}
use Rattle.ll_book.proofs.ReadyLemmas.{absent, find_put, itself_of, no_fall, put_at, put_rises, stands_at, there_already}
use Rattle.ll_book.proofs.ready.Ready.put.Goals as goal

pub invariant_of-self : goal.invariant_of-self
invariant_of-self c =
    let at = searched c.self.inside.tickets.items c.args.ticket (Err c.in-Err.place) c.in-Err.ensures.position (λ i j le lt. no_fall 0 c.self.inside.tickets.items i j c.self.invariant le lt) in
    subst (AreRising itself_of 0) (sym (c.in-Ok.ensures.items ∙ put_at c.args.ticket c.in-Err.place c.self.inside.tickets.items at.0 at.1 at.2))
    (put_rises 0 c.args.ticket c.self.inside.tickets.items c.requires.first (absent c.args.ticket c.in-Err.place c.self.inside.tickets.items at.1 at.2) c.self.invariant)

pub returns-in-Ok-clause-found : goal.returns-in-Ok-clause-found
returns-in-Ok-clause-found c n =
    let at = searched c.self.inside.tickets.items c.args.ticket (Err c.in-Err.place) c.in-Err.ensures.position (λ i j le lt. no_fall 0 c.self.inside.tickets.items i j c.self.invariant le lt) in
    ap (find (has_number itself_of n)) (c.in-Ok.ensures.items ∙ put_at c.args.ticket c.in-Err.place c.self.inside.tickets.items at.0 at.1 at.2)
    ∙ find_put n c.args.ticket c.self.inside.tickets.items ∙ ap (λ (k : Kept). cond (c.args.ticket == n) (Some c.args.ticket) (find (has_number itself_of n) k.tickets)) c.self.view_is

pub returns-in-Ok-clause-rising : goal.returns-in-Ok-clause-rising
returns-in-Ok-clause-rising c =
    let at = searched c.self.inside.tickets.items c.args.ticket (Err c.in-Err.place) c.in-Err.ensures.position (λ i j le lt. no_fall 0 c.self.inside.tickets.items i j c.self.invariant le lt) in
    subst (AreRising itself_of 0) (sym (c.in-Ok.ensures.items ∙ put_at c.args.ticket c.in-Err.place c.self.inside.tickets.items at.0 at.1 at.2))
    (put_rises 0 c.args.ticket c.self.inside.tickets.items c.requires.first (absent c.args.ticket c.in-Err.place c.self.inside.tickets.items at.1 at.2) c.self.invariant)

pub returns-in_default-clause-found : goal.returns-in_default-clause-found
returns-in_default-clause-found c n =
    let at = searched c.self.inside.tickets.items c.args.ticket (Ok c.in_default.field-0) c.in_default.ensures.position (λ i j le lt. no_fall 0 c.self.inside.tickets.items i j c.self.invariant le lt) in
    ap (λ (k : Kept). find (has_number itself_of n) k.tickets) (sym c.self.view_is)
    ∙ there_already n c.args.ticket c.self.inside.tickets.items (stands_at c.args.ticket c.in_default.field-0 c.self.inside.tickets.items at.0 at.1)
    ∙ ap (λ (k : Kept). cond (c.args.ticket == n) (Some c.args.ticket) (find (has_number itself_of n) k.tickets)) c.self.view_is

-- A ticket stands for one request at most.
use Rattle.std.proofs.Common.{◌∙◌, ap, subst, sym}
use Rattle.ll_book.specs.Numbers.{AreRising}
use Rattle.ll_verdict.specs.Waiting.{found, ticket_in, without}
use Rattle.ll_book.proofs.SlotLemmas.{nobody_found, none_found, one_found, slot_of}
use Rattle.ll_book.proofs.book.Book.drop_ticket.Goals as goal

pub forget-requires : goal.forget-requires
forget-requires c = let s = slot_of c.args.ticket c.in-Some.entry c.args.self.now c.in-Some.ensures in ap (λ t. found t c.args.self.now) s.3 ∙ sym c.in-Some.ensures

pub returns-in-Some-clause-slots : goal.returns-in-Some-clause-slots
returns-in-Some-clause-slots c =
    c.forget.ensures ∙ ap (λ t. without t c.args.self.now) (slot_of c.args.ticket c.in-Some.entry c.args.self.now c.in-Some.ensures).3

pub returns-in-Some-clause-count : goal.returns-in-Some-clause-count
returns-in-Some-clause-count c = one_found c.args.ticket c.in-Some.entry c.args.self.now (subst (AreRising ticket_in 0) c.self.view_is c.self.invariant.rising) c.in-Some.ensures

pub returns-in-None-clause-slots : goal.returns-in-None-clause-slots
returns-in-None-clause-slots c = none_found c.args.ticket c.args.self.now c.in-None.ensures

pub returns-in-None-clause-count : goal.returns-in-None-clause-count
returns-in-None-clause-count c = nobody_found c.args.ticket c.args.self.now c.in-None.ensures

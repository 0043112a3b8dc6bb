-- The request whose reply is handed out is the only one of its ticket.
use Rattle.std.proofs.Common.{◌∙◌, subst}
use Rattle.ll_book.specs.Numbers.{AreRising}
use Rattle.ll_verdict.specs.Waiting.{ticket_in}
use Rattle.ll_book.proofs.SlotLemmas.{left_ready, none_ready, passed}
use Rattle.ll_book.proofs.book.Book.take.Goals as goal

pub leave-requires : goal.leave-requires
leave-requires c = passed c.args.ticket c.in-Some.field-0 c.args.self.now (subst (AreRising ticket_in 0) c.self.view_is c.self.invariant.rising) c.in-Some.ensures

pub returns-in-Some-clause-left : goal.returns-in-Some-clause-left
returns-in-Some-clause-left c =
    let rising = subst (AreRising ticket_in 0) c.self.view_is c.self.invariant.rising in
    c.leave.ensures.left ∙ left_ready c.args.ticket c.args.self.now rising (passed c.args.ticket c.in-Some.field-0 c.args.self.now rising c.in-Some.ensures)

pub returns-in-None-clause-left : goal.returns-in-None-clause-left
returns-in-None-clause-left c = none_ready c.args.ticket c.args.self.now c.in-None.ensures

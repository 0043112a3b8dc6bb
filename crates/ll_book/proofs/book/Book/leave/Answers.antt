-- A request whose reply is there leaves.
use Rattle.std.proofs.Common.{◌∙◌, ap, find, option_and_then}
use Rattle.ll_verdict.specs.Waiting.{has_ticket, is_ready, reply_at, settled_in}
use Rattle.ll_book.specs.Orders.{is_passed}
use Rattle.ll_book.proofs.BookLemmas.{book_taken}
use Rattle.ll_book.proofs.SlotLemmas.{ready_reply}
use Rattle.ll_book.proofs.book.Book.leave.Goals as goal

pub invariant_of-self-2 : goal.invariant_of-self-2
invariant_of-self-2 c =
    book_taken _ _ _ _ _ c.self.invariant c.args.ticket _ _ _ (ap (λ ss. is_passed is_ready (find (has_ticket c.args.ticket) ss)) c.self.view_is ∙ c.requires)
    c.remove.ensures.tickets c.remove.ensures.memory c.remove-2.ensures.left

pub returns-clause-reply : goal.returns-clause-reply
returns-clause-reply c =
    ap (option_and_then settled_in) c.in_ok-settled.ensures.value
    ∙ ready_reply c.args.ticket c.self.inside.slots c.self.invariant.rising (ap (λ ss. is_passed is_ready (find (has_ticket c.args.ticket) ss)) c.self.view_is ∙ c.requires)
    ∙ ap (reply_at c.args.ticket) c.self.view_is

-- Those that are left over get the replies that are left over.
use Rattle.std.proofs.Common.{◌≡◌, ◌+◌, ◌<◌, ◌^◌, ℕ, filter, find, length, option_map}
use Rattle.ll_book.specs.Numbers.{AreRising}
use Rattle.ll_verdict.specs.Waiting.{has_ticket, ticket_in}
use Rattle.ll_book.specs.Release.{released, takes}
use Rattle.ll_book.proofs.ReplyLemmas.{HasReplies, replied}
use Rattle.ll_book.proofs.book.Book.release.Given as goal

abbrev pub invariant-loop-entry : goal.invariant-loop-entry
invariant-loop-entry l = record {
  rest : (t : ℕ) → option_map (replied l.which l.replies.entries) (find (has_ticket t) l.self) ≡ find (has_ticket t) (released l.which l.fn.holders.holders l.fn.self);
  pages : HasReplies l.which l.replies.entries l.self;
  left : l.count + length (filter (takes l.which) l.self) ≡ length (filter (takes l.which) l.fn.self);
  as_many : l.looked ≡ l.count;
  rising : AreRising ticket_in 0 l.self;
  few : length (filter (takes l.which) l.fn.self) < 2 ^ 63;
}

abbrev pub decreases-loop-entry : goal.decreases-loop-entry
decreases-loop-entry l = length (filter (takes l.which) l.self)

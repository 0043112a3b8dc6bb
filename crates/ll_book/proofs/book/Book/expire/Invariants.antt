-- Those that are left become what they would have become at once.
use Rattle.std.proofs.Common.{◌≡◌, ◌+◌, ◌<◌, ◌^◌, ℕ, filter, find, length, option_map}
use Rattle.ll_book.specs.Numbers.{AreRising}
use Rattle.ll_verdict.specs.Waiting.{has_ticket, ticket_in}
use Rattle.ll_book.specs.Release.{expired, is_over}
use Rattle.ll_book.proofs.book.Book.expire.Given as goal

abbrev pub invariant-loop-entry : goal.invariant-loop-entry
invariant-loop-entry l = record {
  rest : (t : ℕ) → option_map (expired l.now) (find (has_ticket t) l.self) ≡ option_map (expired l.now) (find (has_ticket t) l.fn.self);
  left : l.count + length (filter (is_over l.now) l.self) ≡ length (filter (is_over l.now) l.fn.self);
  as_many : l.looked ≡ l.count;
  rising : AreRising ticket_in 0 l.self;
  few : length (filter (is_over l.now) l.fn.self) < 2 ^ 63;
}

abbrev pub decreases-loop-entry : goal.decreases-loop-entry
decreases-loop-entry l = length (filter (is_over l.now) l.self)

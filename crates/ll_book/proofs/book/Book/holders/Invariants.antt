-- Those up to a place have their replies.
use Rattle.std.proofs.Common.{◌≡◌, ◌≤◌, ◌+◌, ◌<◌, ◌^◌, ℕ, false, filter, find, length}
use Rattle.std.specs.Ordering.{is_gt}
use Rattle.ll_book.specs.Places.{place_cmp}
use Rattle.ll_verdict.specs.Waiting.{has_ticket}
use Rattle.ll_book.specs.Orders.{holder_at, is_held, is_passed, is_to_come, reply_under, reply_if, start}
use Rattle.ll_book.specs.Release.{takes}
use Rattle.ll_book.proofs.Holding.{supply_of}
use Rattle.ll_book.proofs.book.Book.holders.Given as goal

abbrev pub invariant-loop-place : goal.invariant-loop-place
invariant-loop-place l = record {
  met : (t : ℕ) → reply_under l.holders.entries t ≡ reply_if (is_passed (is_held l.fn.which l.after) (find (has_ticket t) l.self)) (holder_at (supply_of l.pages l.part) l.self t);
  from : is_gt (place_cmp (start l.fn.which) l.after) ≡ false;
  counted : l.looked + length (filter (is_to_come l.fn.which l.after) l.self) ≤ length (filter (takes l.fn.which) l.self);
  few : length (filter (takes l.fn.which) l.self) < 2 ^ 63;
  same : l.pages ≡ l.fn.pages;
}

abbrev pub decreases-loop-place : goal.decreases-loop-place
decreases-loop-place l = length (filter (is_to_come l.fn.which l.after) l.self)

-- Each place stays, whatever stands there, until none is left.
use Rattle.std.proofs.Common.{◌≡◌, length}
use Rattle.ll_page_cache.proofs.written.leave.Given as goal

abbrev pub decreases-loop-last : goal.decreases-loop-last
decreases-loop-last l = length l.pages.items

abbrev pub invariant-loop-last : goal.invariant-loop-last
invariant-loop-last l = length l.pieces.items ≡ length l.fn.pieces.items

-- There are few pieces of each rendition so far.
use Rattle.std.proofs.Common.{◌≡◌, length, take}
use Rattle.ll_page_cache.specs.Stored.{AreFew}
use Rattle.ll_page_cache.proofs.written.trim.Given as goal

abbrev pub invariant-loop-place : goal.invariant-loop-place
invariant-loop-place l = (length l.pieces.items ≡ length l.renditions) × AreFew (take l.place l.pieces.items) (take l.place l.renditions)

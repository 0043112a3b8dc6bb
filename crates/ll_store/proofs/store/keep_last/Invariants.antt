-- The last ones are what they were at the start; each turn leaves one segment fewer.
use Rattle.std.proofs.Common.{◌≡◌, length}
use Rattle.ll_store.specs.Media.{last_of}
use Rattle.ll_store.proofs.store.keep_last.Given as goal

abbrev pub invariant-loop-segments : goal.invariant-loop-segments
invariant-loop-segments l = last_of l.count l.segments.items ≡ last_of l.count l.fn.segments.items

abbrev pub decreases-loop-segments : goal.decreases-loop-segments
decreases-loop-segments l = length l.segments.items

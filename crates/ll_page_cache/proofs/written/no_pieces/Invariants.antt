-- There is a place for each rendition so far, and nothing in it.
use Rattle.std.proofs.Common.{take}
use Rattle.ll_page_cache.specs.Stored.{AreFew}
use Rattle.ll_page_cache.proofs.written.no_pieces.Given as goal

abbrev pub invariant-loop : goal.invariant-loop
invariant-loop l = AreFew l.pieces.items (take l.counter l.renditions)

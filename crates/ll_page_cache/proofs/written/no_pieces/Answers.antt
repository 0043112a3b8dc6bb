-- One more place, with nothing in it.
use Rattle.std.proofs.Common.{refl}
use Rattle.ll_page_cache.proofs.StoredLemmas.{none-at}
use Rattle.ll_page_cache.proofs.written.no_pieces.Goals as goal

pub loop-preserved : goal.loop-preserved
loop-preserved c =
    none-at c.loop.counter _ c.loop.pieces.items _ c.args.renditions.now c.new.result refl c.in_ok-push.ensures.items c.new.ensures c.loop-test.true c.loop.invariant

-- What is left at a place is as much as its rendition shows at most.
use Rattle.std.proofs.Common.{ap, length, length-set, refl, subst, sym, ◌≤◌, ◌∙◌}
use Rattle.std.proofs.lemmas.Option.{slice_get_read}
use Rattle.ll_pieces.specs.Pieces.{PiecesOf}
use Rattle.ll_rendition.specs.declared.rendition.Rendition.{Rendition}
use Rattle.ll_page_cache.proofs.StoredLemmas.{few-at, few-left}
use Rattle.ll_page_cache.proofs.written.trim.Goals as goal

pub loop-place-preserved : goal.loop-place-preserved
loop-place-preserved c =
    let old = c.index_mut.result.now in
    let ks = c.args.renditions.now in
    let count = c.segment_count.result in (
      length-set c.loop-place.pieces.items c.loop-place.place c.keep_last.new.self ∙ c.loop-place.invariant.0,
      few-at c.loop-place.place _ c.loop-place.pieces.items ks c.keep_last.new.self c.index-renditions-place.result refl c.loop-place.invariant.0
          (slice_get_read ks (length ks) c.loop-place.place c.index-renditions-place.result refl c.loop-place-test.true c.index-renditions-place.is)
          (subst (λ n. length c.keep_last.new.self.finished ≤ n)
          (c.segment_count.ensures ∙ ap (λ (k : Rendition). length k.window.window) (sym c.index-renditions-place.is))
          (subst (λ (p : PiecesOf). length p.finished ≤ count) (sym c.keep_last.ensures) (few-left old.finished count)))
          c.loop-place.invariant.1,
    )

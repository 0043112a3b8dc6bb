-- Nothing is written, and each rendition has its name.
use Rattle.std.proofs.Common.{subst}
use Rattle.ll_page_cache.specs.Stored.{AreFew}
use Rattle.ll_presentation.proofs.StepLemmas.{current-new}
use Rattle.ll_store.specs.Stores.{all_kept}
use Rattle.ll_presentation.proofs.presentation.Presentation.new.Goals as goal

pub invariant_of-result : goal.invariant_of-result
invariant_of-result c =
    current-new _ _ c.in_ok-renditions.renditions.items (all_kept c.in_ok-stores.stores.items) c.in_ok-written.written c.in_ok-new.ensures
    c.in_ok-renditions.ensures c.in_ok-written.ensures.pages (subst (AreFew _) c.deref.ensures.value c.in_ok-written.ensures.pieces)

-- The window of a rendition determines it for all its items.
use Rattle.std.proofs.Common.{◌≡◌, List, ap, subst, sym, ◌∙◌, ◌||◌}
use Rattle.std.specs.Prelude.{slice_index_or}
use Rattle.ll_item.specs.declared.item.Item.{Item}
use Rattle.ll_rendition.specs.declared.rendition.Rendition.{Rendition}
use Rattle.ll_verdict.specs.Verdict as verdict
use Rattle.ll_window.specs.Compact.{compact}
use Rattle.ll_window.specs.Segments.{ended}
use Rattle.ll_presentation.specs.contracts.presentation.Presentation.{the_view}
use Rattle.ll_presentation.proofs.HereLemmas.{got-at, told-there}
use Rattle.ll_presentation.proofs.presentation.Presentation.is_there.Goals as goal

pub returns : goal.returns
returns c items shows =
    let a = c.args.wanted.now in
    let kept = c.index-renditions-wanted.result in
    told-there c.args.self.now items a kept c.is_there.result shows
    (got-at c.args.self.now (the_view c.self.inside) a.rendition kept c.self.view_is c.requires
    (c.index-renditions-wanted.is ∙ ap (λ ks. slice_index_or ks a.rendition kept) c.renditions.ensures))
    (subst (λ (k : Rendition). (its : List Item) → k.window ≡ compact k.window.settings its → c.is_there.result ≡ (verdict.holds k.window.settings its a.awaited || ended its)) (sym c.index-renditions-wanted.is)
    c.is_there.ensures)

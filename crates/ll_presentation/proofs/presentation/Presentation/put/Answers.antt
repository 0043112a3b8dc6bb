-- What is kept goes on with the item, and its pages are of that moment.
use Rattle.std.proofs.Common.{ap, ap₂, length, subst, sym, ◌∙◌}
use Rattle.ll_item.specs.Items.{rendition_of}
use Rattle.ll_page.specs.Page.{Moment}
use Rattle.ll_page_cache.proofs.StoredLemmas.{few-length}
use Rattle.ll_page_cache.proofs.WrittenLemmas.{one-written}
use Rattle.ll_page_cache.specs.Stored.{AreFew}
use Rattle.ll_presentation.proofs.StepLemmas.{current-with, goes-on, prepared}
use Rattle.ll_presentation.specs.Items.{IsPrepared}
use Rattle.ll_presentation.specs.PresentationValue.{PresentationValue}
use Rattle.ll_presentation.specs.contracts.presentation.Presentation.{the_view}
use Rattle.ll_store.specs.Stores.{all_kept, map_at, stores_with}
use Rattle.ll_presentation.proofs.presentation.Presentation.put.Goals as goal

pub renew-requires : goal.renew-requires
renew-requires c =
    let is = prepared c.args.self.now c.args.item.now c.args.pages c.in_ok-shown.shown c.requires.prepared (c.in_ok-shown.ensures ∙ c.shown.ensures) in
    few-length _ _ c.self.invariant.pieces ∙ ap (λ (p : PresentationValue). length p.renditions) c.self.view_is ∙ sym is.many ∙ ap length (sym c.renditions-3.ensures)

pub returns-clause-accepted : goal.returns-clause-accepted
returns-clause-accepted c =
    let h = the_view c.self.inside in
    let i = c.args.item.now in
    let a = c.in_ok-arrival.arrival in
    let m = c.in_ok-shown.shown in
    let is = prepared h i c.args.pages m (subst (λ p. IsPrepared p i c.args.pages) (sym c.self.view_is) c.requires.prepared) (c.in_ok-shown.ensures ∙ c.shown.ensures) in
    goes-on h c.args.self.now i m (all_kept c.arrive.new.stores.items) a c.self.view_is c.requires.allowed
    (record {
      place = c.in_ok-arrival.ensures.rendition;
      map = c.in_ok-arrival.ensures.map ∙ ap (map_at (rendition_of i)) c.renditions.ensures;
      brought = c.in_ok-arrival.ensures.brought;
    })
    is.goes_on is.moment (c.arrive.ensures ∙ ap₂ (stores_with a) c.renditions-2.ensures c.in_ok-arrival.ensures.unchanged)

pub invariant_of-self-2 : goal.invariant_of-self-2
invariant_of-self-2 c =
    let h = the_view c.self.inside in
    let m = c.in_ok-shown.shown in
    let at = c.in_ok-shown.ensures ∙ c.shown.ensures in
    let is = prepared h c.args.item.now c.args.pages m (subst (λ p. IsPrepared p c.args.item.now c.args.pages) (sym c.self.view_is) c.requires.prepared) at in
    current-with h c.self.inside.written c.renew.new.self m (all_kept c.arrive.new.stores.items) c.self.invariant
    (one-written m _ c.args.pages (c.renew.ensures.pages ∙ c.in_ok-pages.ensures.items) (sym at)) (subst (AreFew _) c.renditions-3.ensures c.renew.ensures.pieces)
    is.many (ap (λ (x : Moment). x.settings) is.moment)

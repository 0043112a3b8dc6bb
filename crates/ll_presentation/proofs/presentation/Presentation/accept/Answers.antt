-- What is kept goes on with the item, and nothing of it is written.
use Rattle.std.proofs.Common.{ap, ap₂, length, subst, sym, ◌∙◌}
use Rattle.ll_item.specs.Items.{rendition_of}
use Rattle.ll_page.specs.Page.{Moment}
use Rattle.ll_page_cache.proofs.StoredLemmas.{few-length}
use Rattle.ll_page_cache.proofs.WrittenLemmas.{none-written}
use Rattle.ll_page_cache.specs.Stored.{AreFew}
use Rattle.ll_pieces.specs.View.{GoOn}
use Rattle.ll_presentation.proofs.StepLemmas.{current-with, goes-on}
use Rattle.ll_presentation.specs.contracts.presentation.Presentation.{the_view}
use Rattle.ll_store.specs.Stores.{all_kept, map_at, stores_with}
use Rattle.ll_presentation.proofs.presentation.Presentation.accept.Goals as goal

pub drop_pages-requires : goal.drop_pages-requires
drop_pages-requires c = few-length _ _ c.self.invariant.pieces ∙ ap length (sym c.renditions-2.ensures)

pub drop_pages-requires-2 : goal.drop_pages-requires-2
drop_pages-requires-2 c =
    few-length _ _ c.drop_pages.ensures.pieces ∙ ap length c.renditions-2.ensures ∙ sym c.accept.ensures.many ∙ ap length (sym c.renditions-4.ensures)

pub returns-clause-accepted : goal.returns-clause-accepted
returns-clause-accepted c =
    let h = the_view c.self.inside in
    let i = c.args.item.now in
    let a = c.in_ok-arrival.arrival in
    let m = c.accept.new.self in
    goes-on h c.args.self.now i m (all_kept c.arrive.new.stores.items) a c.self.view_is c.requires.allowed
    (record {
      place = c.in_ok-arrival.ensures.rendition;
      map = c.in_ok-arrival.ensures.map ∙ ap (map_at (rendition_of i)) c.renditions.ensures;
      brought = c.in_ok-arrival.ensures.brought;
    })
    (subst (λ j. GoOn h.renditions m.renditions j) c.in_ok-copy.ensures c.in_ok-accept.ensures.goes_on) c.in_ok-accept.ensures.accepted
    (c.arrive.ensures ∙ ap₂ (stores_with a) c.renditions-3.ensures c.in_ok-arrival.ensures.unchanged)

pub invariant_of-self-2 : goal.invariant_of-self-2
invariant_of-self-2 c =
    let m = c.accept.new.self in
    current-with (the_view c.self.inside) c.self.inside.written c.drop_pages-2.new.self m (all_kept c.arrive.new.stores.items) c.self.invariant
    (none-written m _ c.drop_pages-2.ensures.pages) (subst (AreFew _) c.renditions-4.ensures c.drop_pages-2.ensures.pieces) c.accept.ensures.many
    (ap (λ (x : Moment). x.settings) c.in_ok-accept.ensures.accepted)

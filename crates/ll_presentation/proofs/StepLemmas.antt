-- What is kept goes on with an item that nothing refuses.
use Rattle.std.proofs.Common.{◌≡◌, ◌+◌, ◌<◌, List, [], ◌∷◌, ◌++◌, Some, None, nat_lt, refl, ap, ap₂, sym, subst, ◌∙◌, length, length-append, arith}
use Rattle.std.specs.Prelude.{slice_get}
use Rattle.std.proofs.lemmas.Bool.Decides.{nat_tests}
use Rattle.ll_item.specs.Items.{rendition_of}
use Rattle.ll_settings.specs.Settings.{Configuration}
use Rattle.ll_item.specs.declared.item.Item.{Item}
use Rattle.ll_page.proofs.RenditionLemmas.{length-renditions, own-same}
use Rattle.ll_page.specs.Page.{Moment}
use Rattle.ll_page_cache.proofs.WrittenLemmas.{none-written}
use Rattle.ll_page_cache.specs.Pages.{PagesOf}
use Rattle.ll_page_cache.specs.Stored.{AreFew}
use Rattle.ll_page_cache.specs.Written.{AreWritten, WrittenOf}
use Rattle.ll_pieces.specs.View.{GoOn, renditions}
use Rattle.ll_presentation.proofs.RefusalLemmas.{accepted_in, kept-there, not_ended, refusal_as}
use Rattle.ll_presentation.specs.Current.{IsCurrent}
use Rattle.ll_presentation.specs.Items.{HasTaken, IsPrepared, refusal_in}
use Rattle.ll_presentation.specs.PresentationValue.{PresentationValue, moment}
use Rattle.ll_rendition.specs.Kept.{kept}
use Rattle.ll_rendition.specs.Refusal.{refusal_at, rendition_refusal}
use Rattle.ll_rendition.specs.declared.rendition.Rendition.{Rendition}
use Rattle.ll_store.proofs.StoresStep.{arrival_of, arrived}
use Rattle.ll_store.specs.Media.{StoreValue}
use Rattle.ll_store.specs.Step.{brought_by}
use Rattle.ll_store.specs.Stores.{map_at, stores, stores_with}
use Rattle.ll_store.specs.declared.arrival.Arrival.{Arrival}
use Rattle.ll_verdict.specs.Accepted.{refusal}
use Rattle.ll_window.specs.Segments.{own}

-- what an item adds is told by what is kept before it
pub record IsArrival (old : List Rendition) (i : Item) (a : Arrival) : Type 0 where
  pub place : a.rendition ≡ rendition_of i
  pub map : a.map ≡ map_at (rendition_of i) old
  pub brought : a.brought ≡ brought_by i

arrival_is : (a : Arrival) (old : List Rendition) (i : Item) → IsArrival old i a → a ≡ arrival_of old i
arrival_is a old i is =
    ap (λ r. let x : Arrival = record { rendition = r; map = a.map; brought = a.brought } in x) is.place
    ∙ ap₂ (λ m b. let x : Arrival = record { rendition = rendition_of i; map = m; brought = b } in x) is.map is.brought

-- the bytes
stored : (c : Configuration) (items : List Item) (i : Item) (old new : List Rendition) (a : Arrival) → refusal_at (slice_get old (rendition_of i)) i ≡ None
    → old ≡ renditions c items → new ≡ renditions c (items ++ i ∷ []) → IsArrival old i a → stores_with a new (stores c items) ≡ stores c (items ++ i ∷ [])
stored c items i old new a free before after is =
    let r = rendition_of i in
    let none : refusal c items i ≡ None =
    sym (refusal_as c items i (slice_get (renditions c items) r) refl) ∙ ap (λ ks. refusal_at (slice_get ks r) i) (sym before) ∙ free in
    let in_channel = accepted_in r (length c.renditions) (rendition_refusal c (own r items) i) (nat_lt r (length c.renditions)) refl none in
    let within : r < length c.renditions = (let e = in_channel.0 in grind (arith, nat_tests)) in
    ap (λ a. stores_with a new (stores c items)) (arrival_is a old i is)
    ∙ arrived c items i old new within (not_ended c (own r items) i in_channel.1)
    (ap (λ ks. slice_get ks r) before ∙ kept-there c items r in_channel.0)
    (ap (λ ks. slice_get ks r) after ∙ kept-there c (items ++ i ∷ []) r in_channel.0 ∙ ap (λ xs. Some (kept c xs)) (own-same r items i refl))

going : (old new : PresentationValue) (i : Item) (a : Arrival) → refusal_in old i ≡ None → IsArrival old.renditions i a → GoOn old.renditions new.renditions i
    → moment new ≡ record { settings = old.settings; renditions = new.renditions; count = old.count + 1 } → new.stores ≡ stores_with a new.renditions old.stores
    → HasTaken old new i
going old new i a free is on shown arrives =
    let same : new.settings ≡ old.settings = ap (λ (m : Moment). m.settings) shown in
    let more : new.count ≡ old.count + 1 = ap (λ (m : Moment). m.count) shown in
    record {
      settings = same;
      count = more;
      shows = λ before shows.
          let c = old.settings in
          let kept_before : old.renditions ≡ renditions c before = ap (λ (p : PresentationValue). p.renditions) shows in
          let kept_now : new.renditions ≡ renditions c (before ++ i ∷ []) = on c before kept_before in
          let bytes : new.stores ≡ stores c (before ++ i ∷ []) =
          arrives ∙ ap (stores_with a new.renditions) (ap (λ (p : PresentationValue). p.stores) shows)
          ∙ stored c before i old.renditions new.renditions a free kept_before kept_now is in
          let many : new.count ≡ length (before ++ i ∷ []) = more ∙ ap (λ (p : PresentationValue). p.count + 1) shows ∙ sym (length-append before (i ∷ [])) in
          ap₂ (λ ks ss. let p : PresentationValue = record { settings = new.settings; renditions = ks; stores = ss; count = new.count } in p) kept_now bytes
          ∙ ap (λ n. let p : PresentationValue = record { settings = new.settings; renditions = renditions c (before ++ i ∷ []); stores = stores c (before ++ i ∷ []); count = n } in p) many
          ∙ ap (λ d. let p : PresentationValue = record { settings = new.settings; renditions = renditions d (before ++ i ∷ []); stores = stores d (before ++ i ∷ []); count = length (before ++ i ∷ []) } in p) (sym same);
    }

-- all of it; `m` is the channel after the item, and `ss` are the bytes
pub goes-on : (old now : PresentationValue) (i : Item) (m : Moment) (ss : List StoreValue) (a : Arrival) → old ≡ now → refusal_in now i ≡ None
    → IsArrival old.renditions i a → GoOn old.renditions m.renditions i → m ≡ record { settings = old.settings; renditions = m.renditions; count = old.count + 1 }
    → ss ≡ stores_with a m.renditions old.stores → HasTaken now (record { settings = m.settings; renditions = m.renditions; stores = ss; count = m.count }) i
goes-on old now i m ss a e free is on shown arrives =
    let new : PresentationValue = record { settings = m.settings; renditions = m.renditions; stores = ss; count = m.count } in
    subst (λ p. HasTaken p new i) e (going old new i a (ap (λ p. refusal_in p i) e ∙ free) is on shown arrives)

-- the channel of the pages that were prepared
pub prepared : (p : PresentationValue) (i : Item) (pages : PagesOf) (m : Moment) → IsPrepared p i pages → m ≡ pages.moment
    → IsPrepared p i (record { moment = m; rendition = pages.rendition })
prepared p i pages m is e = subst (λ n. IsPrepared p i (record { moment = n; rendition = pages.rendition })) (sym e) is

-- the invariant after the item
pub current-with : (old : PresentationValue) (v w : WrittenOf) (m : Moment) (ss : List StoreValue) → IsCurrent old v → AreWritten m w.pages → AreFew w.pieces m.renditions
    → length m.renditions ≡ length old.renditions → m.settings ≡ old.settings
    → IsCurrent (record { settings = m.settings; renditions = m.renditions; stores = ss; count = m.count }) w
current-with old v w m ss k written few many same = record {
  pages = written;
  pieces = few;
  each = many ∙ k.each ∙ ap (λ (c : Configuration). length c.renditions) (sym same);
}

-- the invariant without items
pub current-new : (c : Configuration) (m : Moment) (ks : List Rendition) (ss : List StoreValue) (w : WrittenOf) → m ≡ record { settings = c; renditions = ks; count = 0 }
    → ks ≡ renditions c [] → w.pages ≡ [] → AreFew w.pieces ks
    → IsCurrent (record { settings = m.settings; renditions = m.renditions; stores = ss; count = m.count }) w
current-new c m ks ss w made is none few = record {
  pages = none-written m w.pages none;
  pieces = subst (AreFew w.pieces) (sym (ap (λ (x : Moment). x.renditions) made)) few;
  each = subst (λ (x : Moment). length x.renditions ≡ length x.settings.renditions) (sym made) (ap length is ∙ length-renditions c []);
}

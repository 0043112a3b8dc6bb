-- What is kept of a rendition says the same as all its items.
use Rattle.std.proofs.Common.{◌≡◌, ℕ, ◌<◌, List, Bool, true, false, ◌||◌, cond, nat_lt, Option, Some, None, is_some, option_map, length, refl, ap, ap₂, ◌∙◌, sym, arith, subst, slice_index_or}
use Rattle.std.specs.Prelude.{slice_get}
use Rattle.std.proofs.lemmas.Option.{slice_get_read}
use Rattle.std.proofs.lemmas.Bool.Decides.{nat_tests}
use Rattle.ll_settings.specs.Settings.{Configuration}
use Rattle.ll_directive.specs.Files.{is_playlist}
use Rattle.ll_item.specs.declared.item.Item.{Item}
use Rattle.ll_page.proofs.RenditionLemmas.{length-renditions, rendition-got}
use Rattle.ll_presentation.proofs.RefusalLemmas.{kept-there}
use Rattle.ll_presentation.specs.Here.{media_here, page_now, reply_here}
use Rattle.ll_presentation.specs.PresentationValue.{PresentationValue, Shows}
use Rattle.ll_rendition.specs.declared.rendition.Rendition.{Rendition}
use Rattle.ll_store.proofs.StoresStep.{store-got}
use Rattle.ll_store.specs.Stores.{media_by}
use Rattle.ll_verdict.specs.Standing.{standing, standing_of}
use Rattle.ll_verdict.specs.Verdict.{is_hinted, is_there, media_of, piece_of}
use Rattle.ll_verdict.specs.Verdict as verdict
use Rattle.ll_verdict.specs.declared.reply.Reply.TheVariants as now
use Rattle.ll_verdict.specs.declared.wanted.Wanted.{Wanted}
use Rattle.ll_window.specs.Compact.{Compact, compact}
use Rattle.ll_window.specs.Segments.{ended, own}

-- the media is that of the items
pub media-is : (p : PresentationValue) (items : List Item) (a : Wanted) → Shows p items → a.rendition < length p.renditions → media_here p a ≡ media_of p.settings items a
media-is p items a shows within =
    let c = p.settings in
    let many : length p.renditions ≡ length c.renditions = ap (λ (x : PresentationValue). length x.renditions) shows ∙ length-renditions c items in
    let named : nat_lt a.rendition (length c.renditions) ≡ true = grind (arith, nat_tests, within, many) in
    let below : a.rendition < length c.renditions = grind (arith, nat_tests, named) in
    ap (λ (x : PresentationValue). media_here x a) shows
    ∙ ap₂ (media_by a.what) (kept-there c items a.rendition named) (store-got c items a.rendition below)

-- a playlist is always there
pub page-here : (p : PresentationValue) (a : Wanted) → is_playlist a.what ≡ true → reply_here p a ≡ Some (now.Text (page_now p a))
page-here p a e = ap (λ b. cond b (Some (now.Text (page_now p a))) (option_map (λ bytes. now.Media (piece_of p.count a bytes)) (media_here p a))) e

pub piece-here : (p : PresentationValue) (a : Wanted) → is_playlist a.what ≡ false
    → reply_here p a ≡ option_map (λ bytes. now.Media (piece_of p.count a bytes)) (media_here p a)
piece-here p a e = ap (λ b. cond b (Some (now.Text (page_now p a))) (option_map (λ bytes. now.Media (piece_of p.count a bytes)) (media_here p a))) e

some-mapped : {A B : Type 0} (f : A → B) (o : Option A) → is_some o ≡ true → is_some (option_map f o) ≡ true
some-mapped f None e = cc
some-mapped f (Some x) e = refl

-- if the media is there, so is the reply
pub media-there : (p : PresentationValue) (a : Wanted) → is_playlist a.what ≡ false → is_some (media_here p a) ≡ true → is_some (reply_here p a) ≡ true
media-there p a e found = ap is_some (piece-here p a e) ∙ some-mapped (λ bytes. now.Media (piece_of p.count a bytes)) (media_here p a) found

-- the window of a rendition
window-is : (p : PresentationValue) (items : List Item) (r : ℕ) (k : Rendition) → Shows p items → slice_get p.renditions r ≡ Some k
    → k.window ≡ compact p.settings (own r items)
window-is p items r k shows e =
    ap (λ (x : Rendition). x.window) (rendition-got p.settings items r k (sym (ap (λ (x : PresentationValue). slice_get x.renditions r) shows) ∙ e)).1

told-at : {B : Type 0} (p : PresentationValue) (items : List Item) (r : ℕ) (k : Rendition) (b : B) (f : Configuration → List Item → B) → Shows p items
    → slice_get p.renditions r ≡ Some k → ((its : List Item) → k.window ≡ compact k.window.settings its → b ≡ f k.window.settings its)
    → b ≡ f p.settings (own r items)
told-at p items r k b f shows got told =
    let its = own r items in
    let w = window-is p items r k shows got in
    let same : k.window.settings ≡ p.settings = ap (λ (x : Compact). x.settings) w in
    told its (w ∙ ap (λ d. compact d its) (sym same)) ∙ ap (λ d. f d its) same

-- a rendition says the same as the items
pub told-there : (p : PresentationValue) (items : List Item) (a : Wanted) (k : Rendition) (b : Bool) → Shows p items → slice_get p.renditions a.rendition ≡ Some k
    → ((its : List Item) → k.window ≡ compact k.window.settings its → b ≡ (verdict.holds k.window.settings its a.awaited || ended its))
    → b ≡ is_there p.settings items a
unfolding is_there
told-there p items a k b shows got told = told-at p items a.rendition k b (λ c its. verdict.holds c its a.awaited || ended its) shows got told

pub told-far : (p : PresentationValue) (items : List Item) (a : Wanted) (k : Rendition) (b : Bool) → Shows p items → slice_get p.renditions a.rendition ≡ Some k
    → ((its : List Item) → k.window ≡ compact k.window.settings its → b ≡ verdict.far k.window.settings its a.awaited)
    → b ≡ verdict.far p.settings (own a.rendition items) a.awaited
told-far p items a k b shows got told = told-at p items a.rendition k b (λ c its. verdict.far c its a.awaited) shows got told

pub told-hinted : (p : PresentationValue) (items : List Item) (a : Wanted) (k : Rendition) (b : Bool) → Shows p items → slice_get p.renditions a.rendition ≡ Some k
    → ((its : List Item) → k.window ≡ compact k.window.settings its → b ≡ is_hinted k.window.settings its a.awaited)
    → b ≡ is_hinted p.settings (own a.rendition items) a.awaited
told-hinted p items a k b shows got told = told-at p items a.rendition k b (λ c its. is_hinted c its a.awaited) shows got told

pub got-at : (p q : PresentationValue) (r : ℕ) (k : Rendition) → q ≡ p → r < length p.renditions → k ≡ slice_index_or q.renditions r k → slice_get p.renditions r ≡ Some k
got-at p q r k e within at =
    ap (λ (x : PresentationValue). slice_get x.renditions r) (sym e)
    ∙ slice_get_read q.renditions (length q.renditions) r k refl (subst (λ (x : PresentationValue). r < length x.renditions) (sym e) within) at

-- where a rendition stands
pub stands-there : (p : PresentationValue) (items : List Item) (r : ℕ) (k : Rendition) → Shows p items → slice_get p.renditions r ≡ Some k
    → (r < length p.settings.renditions) × (standing_of p.count k ≡ standing p.settings items r)
stands-there p items r k shows found =
    let got = rendition-got p.settings items r k (ap (λ (x : PresentationValue). slice_get x.renditions r) (sym shows) ∙ found) in
    let inside = got.0 in
    (grind (arith, nat_tests, inside), ap₂ standing_of (ap (λ (x : PresentationValue). x.count) shows) got.1)

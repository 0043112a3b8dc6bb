-- What is kept of the renditions after one more item.
use Rattle.std.proofs.Common.{◌≡◌, ℕ, zero, suc, ◌<◌, List, [], ◌∷◌, ◌++◌, true, false, Option, None, Some, is_none, refl, ap, ap₂, sym, ◌∙◌, true≢false, length, arith}
use Rattle.std.specs.Prelude.{Result, Ok, Err, OnOk, slice_get, slice_set}
use Rattle.std.proofs.lemmas.Bool.Decides.{nat_tests}
use Rattle.ll_item.specs.Items.{rendition_of}
use Rattle.ll_settings.specs.Settings.{Configuration}
use Rattle.ll_item.specs.declared.item.Item.{Item}
use Rattle.ll_pieces.specs.View.{GoOn, renditions}
use Rattle.ll_page.proofs.RenditionLemmas.{rendition-got, renditions-snoc}
use Rattle.ll_rendition.specs.Kept.{kept}
use Rattle.ll_rendition.specs.Refusal.{refusal_at}
use Rattle.ll_rendition.specs.declared.rendition.Rendition.{Rendition}
use Rattle.ll_window.specs.Segments.{own}

-- one more item for its rendition
goes-on : {E : Type 0} (c : Configuration) (before : List Item) (i : Item) (rs : List Rendition) (at : ℕ) (old new : Rendition) (r : Result Unit E)
    → rs ≡ renditions c before → at ≡ rendition_of i → slice_get rs at ≡ Some old
    → ((d : Configuration) (its : List Item) → old ≡ kept d its → OnOk r (new ≡ kept d (its ++ i ∷ [])))
    → OnOk r (slice_set rs at new ≡ renditions c (before ++ i ∷ []))
goes-on c before i rs at old new (Err e) whole place stands h = tt
goes-on c before i rs at old new (Ok x) whole place stands h =
    let got = rendition-got c before (rendition_of i) old (ap₂ slice_get (sym whole) (sym place) ∙ stands) in
    let is = h c (own (rendition_of i) before) got.1 in
    let within : rendition_of i < length c.renditions = (let e = got.0 in grind (arith, nat_tests)) in
    ap₂ (λ xs q. slice_set xs q new) whole place ∙ ap (slice_set (renditions c before) (rendition_of i)) is ∙ sym (renditions-snoc c before i within)

-- the same for any items before it
pub goes-on-all : {E : Type 0} (i : Item) (rs : List Rendition) (at : ℕ) (old new : Rendition) (r : Result Unit E) → at ≡ rendition_of i → slice_get rs at ≡ Some old
    → ((d : Configuration) (its : List Item) → old ≡ kept d its → OnOk r (new ≡ kept d (its ++ i ∷ [])))
    → OnOk r (GoOn rs (slice_set rs at new) i)
goes-on-all {E} i rs at old new (Err e) place stands h = tt
goes-on-all {E} i rs at old new (Ok x) place stands h = λ c before whole. goes-on {E = E} c before i rs at old new (Ok x) whole place stands h

within-got : (rs : List Rendition) (r : ℕ) (k : Rendition) → slice_get rs r ≡ Some k → r < length rs
within-got [] r k e = absurd (cc)
within-got (x ∷ rs) zero k e = omega arith
within-got (x ∷ rs) (suc r) k e = let h = within-got rs r k e in omega (arith, h)

nowhere_by : (rs : List Rendition) (i : Item) (o : Option Rendition) → slice_get rs (rendition_of i) ≡ o → (rendition_of i < length rs → false ≡ true)
    → refusal_at o i ≡ None → ⊥
nowhere_by rs i None e past free = true≢false (sym (ap is_none free))
nowhere_by rs i (Some k) e past free = true≢false (sym (past (within-got rs (rendition_of i) k e)))

-- an item that nothing refuses is of a rendition that is kept
pub nowhere : (rs : List Rendition) (n at : ℕ) (i : Item) → at ≡ rendition_of i → n ≡ length rs → (at < n → false ≡ true)
    → refusal_at (slice_get rs (rendition_of i)) i ≡ None → ⊥
nowhere rs n at i place many past free =
    nowhere_by rs i (slice_get rs (rendition_of i)) refl (λ h. past (omega (arith, h, place, many))) free

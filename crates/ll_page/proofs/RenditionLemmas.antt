-- What is kept of each rendition when one more item comes: that of its rendition goes on, the others stay.
use Rattle.std.proofs.Common.{◌≡◌, ◌≢◌, ℕ, zero, suc, ◌+◌, ◌<◌, ◌==◌, List, [], ◌∷◌, ◌++◌, true, false, Some, refl, ap, ap₂, sym, ◌∙◌, length, arith, append-nil, cond}
use Rattle.std.specs.Prelude.{slice_get, slice_set, nat_lt}
use Rattle.std.proofs.lemmas.Bool.Decides.{nat_tests}
use Rattle.std.proofs.lemmas.List.Elements.{filter-append}
use Rattle.ll_item.specs.Items.{rendition_of}
use Rattle.ll_settings.specs.Settings.{Configuration}
use Rattle.ll_item.specs.declared.item.Item.{Item}
use Rattle.ll_pieces.specs.View.{renditions, renditions_from}
use Rattle.ll_rendition.specs.Kept.{kept}
use Rattle.ll_rendition.specs.declared.rendition.Rendition.{Rendition}
use Rattle.ll_window.specs.Segments.{own}

pub own-same : (r : ℕ) (items : List Item) (i : Item) → rendition_of i ≡ r → own r (items ++ i ∷ []) ≡ own r items ++ i ∷ []
own-same r items i e =
    let yes : (rendition_of i == r) ≡ true = grind (arith, nat_tests) in
    filter-append (λ j. rendition_of j == r) items (i ∷ []) ∙ ap (λ b. own r items ++ cond b (i ∷ []) []) yes

pub own-other : (r : ℕ) (items : List Item) (i : Item) → rendition_of i ≢ r → own r (items ++ i ∷ []) ≡ own r items
own-other r items i ne =
    let no : (rendition_of i == r) ≡ false = grind (arith, nat_tests) in
    filter-append (λ j. rendition_of j == r) items (i ∷ []) ∙ ap (λ b. own r items ++ cond b (i ∷ []) []) no ∙ append-nil (own r items)

-- an item of a rendition before all of these changes none of them
others_stay : (c : Configuration) (items : List Item) (i : Item) (k : ℕ) (names : List (List ℕ)) → rendition_of i < k
    → renditions_from c (items ++ i ∷ []) k names ≡ renditions_from c items k names
others_stay c items i k [] h = refl
others_stay c items i k (name ∷ names) h =
    let ne : rendition_of i ≢ k = omega arith in
    let low : rendition_of i < k + 1 = omega arith in
    ap₂ (λ x xs. kept c x ∷ xs) (own-other k items i ne) (others_stay c items i (k + 1) names low)

set-from : (c : Configuration) (items : List Item) (i : Item) (k j : ℕ) (names : List (List ℕ)) → rendition_of i ≡ k + j → j < length names
    → renditions_from c (items ++ i ∷ []) k names ≡ slice_set (renditions_from c items k names) j (kept c (own (k + j) items ++ i ∷ []))
set-from c items i k j [] e h = absurd (omega arith)
set-from c items i k zero (name ∷ names) e h =
    let same : rendition_of i ≡ k = omega arith in
    let low : rendition_of i < k + 1 = omega arith in
    let place : k ≡ k + 0 = omega arith in
    ap₂ (λ x xs. kept c x ∷ xs) (own-same k items i same ∙ ap (λ r. own r items ++ i ∷ []) place) (others_stay c items i (k + 1) names low)
set-from c items i k (suc j) (name ∷ names) e h =
    let ne : rendition_of i ≢ k = omega arith in
    let next : rendition_of i ≡ (k + 1) + j = omega arith in
    let within : j < length names = omega arith in
    let place : (k + 1) + j ≡ k + suc j = omega arith in
    ap₂ (λ x xs. kept c x ∷ xs) (own-other k items i ne)
    (set-from c items i (k + 1) j names next within
    ∙ ap (λ r. slice_set (renditions_from c items (k + 1) names) j (kept c (own r items ++ i ∷ []))) place)

got-from : (c : Configuration) (items : List Item) (k j : ℕ) (names : List (List ℕ)) (w : Rendition) → slice_get (renditions_from c items k names) j ≡ Some w
    → (j < length names) × (w ≡ kept c (own (k + j) items))
got-from c items k j [] w e = absurd (cc)
got-from c items k zero (name ∷ names) w e =
    let place : k ≡ k + 0 = omega arith in
    let is : kept c (own k items) ≡ w = cc in
    (omega arith, sym is ∙ ap (λ r. kept c (own r items)) place)
got-from c items k (suc j) (name ∷ names) w e =
    let rest = got-from c items (k + 1) j names w e in
    let place : (k + 1) + j ≡ k + suc j = omega arith in
    (omega (arith, rest.0), rest.1 ∙ ap (λ r. kept c (own r items)) place)

length-from : (c : Configuration) (items : List Item) (k : ℕ) (names : List (List ℕ)) → length (renditions_from c items k names) ≡ length names
length-from c items k [] = refl
length-from c items k (name ∷ names) = ap suc (length-from c items (k + 1) names)

pub length-renditions : (c : Configuration) (items : List Item) → length (renditions c items) ≡ length c.renditions
length-renditions c items = length-from c items 0 c.renditions

-- what is kept of the rendition at a place
pub rendition-got : (c : Configuration) (items : List Item) (r : ℕ) (w : Rendition) → slice_get (renditions c items) r ≡ Some w
    → (nat_lt r (length c.renditions) ≡ true) × (w ≡ kept c (own r items))
rendition-got c items r w e =
    let got = got-from c items 0 r c.renditions w e in
    let within : r < length c.renditions = got.0 in
    let place : 0 + r ≡ r = omega arith in
    (grind (arith, nat_tests), got.1 ∙ ap (λ q. kept c (own q items)) place)

pub renditions-snoc : (c : Configuration) (items : List Item) (i : Item) → rendition_of i < length c.renditions
    → renditions c (items ++ i ∷ []) ≡ slice_set (renditions c items) (rendition_of i) (kept c (own (rendition_of i) items ++ i ∷ []))
renditions-snoc c items i h =
    let start : rendition_of i ≡ 0 + rendition_of i = omega arith in
    set-from c items i 0 (rendition_of i) c.renditions start h
    ∙ ap (λ r. slice_set (renditions c items) (rendition_of i) (kept c (own r items ++ i ∷ []))) (sym start)

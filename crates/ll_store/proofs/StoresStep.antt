-- The stores of all renditions with one more item: that of its rendition changes, the others stay.
use Rattle.std.proofs.Common.{◌≡◌, ◌≢◌, ℕ, zero, suc, ◌+◌, ◌<◌, List, [], ◌∷◌, ◌++◌, false, Some, refl, ap, ap₂, sym, ◌∙◌, length, arith}
use Rattle.std.specs.Prelude.{slice_get, slice_set}
use Rattle.std.specs.Option.{option_map_or}
use Rattle.ll_item.specs.Items.{rendition_of}
use Rattle.ll_settings.specs.Settings.{Configuration}
use Rattle.ll_item.specs.declared.item.Item.{Item}
use Rattle.ll_rendition.specs.Kept.{kept}
use Rattle.ll_rendition.specs.declared.rendition.Rendition.{Rendition}
use Rattle.ll_window.specs.Compact.{compact, map_now}
use Rattle.ll_window.specs.Segments.{ended, own}
use Rattle.ll_store.proofs.OwnLemmas.{own-other, own-same}
use Rattle.ll_store.proofs.StoreStep.{store-snoc}
use Rattle.ll_store.specs.Media.{store}
use Rattle.ll_store.specs.Step.{brought_by, grown, trimmed}
use Rattle.ll_store.specs.Stores.{map_at, stores, stores_from, stores_with, with_by}
use Rattle.ll_store.specs.declared.arrival.Arrival.{Arrival}

-- an item of a rendition before all of these changes none of them
others_stay : (c : Configuration) (items : List Item) (i : Item) (k : ℕ) (names : List (List ℕ)) → rendition_of i < k
    → stores_from c (items ++ i ∷ []) k names ≡ stores_from c items k names
others_stay c items i k [] h = refl
others_stay c items i k (name ∷ names) h =
    let ne : rendition_of i ≢ k = omega arith in
    let low : rendition_of i < k + 1 = omega arith in
    ap₂ (λ x xs. store c x ∷ xs) (own-other k items i ne) (others_stay c items i (k + 1) names low)

set-from : (c : Configuration) (items : List Item) (i : Item) (k j : ℕ) (names : List (List ℕ)) → rendition_of i ≡ k + j → j < length names
    → stores_from c (items ++ i ∷ []) k names ≡ slice_set (stores_from c items k names) j (store c (own (k + j) items ++ i ∷ []))
set-from c items i k j [] e h = absurd (omega arith)
set-from c items i k zero (name ∷ names) e h =
    let same : rendition_of i ≡ k = omega arith in
    let low : rendition_of i < k + 1 = omega arith in
    let place : k ≡ k + 0 = omega arith in
    ap₂ (λ x xs. store c x ∷ xs) (own-same k items i same ∙ ap (λ r. own r items ++ i ∷ []) place) (others_stay c items i (k + 1) names low)
set-from c items i k (suc j) (name ∷ names) e h =
    let ne : rendition_of i ≢ k = omega arith in
    let next : rendition_of i ≡ (k + 1) + j = omega arith in
    let within : j < length names = omega arith in
    let place : (k + 1) + j ≡ k + suc j = omega arith in
    ap₂ (λ x xs. store c x ∷ xs) (own-other k items i ne)
    (set-from c items i (k + 1) j names next within
    ∙ ap (λ r. slice_set (stores_from c items (k + 1) names) j (store c (own r items ++ i ∷ []))) place)

got-from : (c : Configuration) (items : List Item) (k j : ℕ) (names : List (List ℕ)) → j < length names
    → slice_get (stores_from c items k names) j ≡ Some (store c (own (k + j) items))
got-from c items k j [] h = absurd (omega arith)
got-from c items k zero (name ∷ names) h = let place : k ≡ k + 0 = omega arith in ap (λ r. Some (store c (own r items))) place
got-from c items k (suc j) (name ∷ names) h =
    let within : j < length names = omega arith in
    let place : (k + 1) + j ≡ k + suc j = omega arith in
    got-from c items (k + 1) j names within ∙ ap (λ r. Some (store c (own r items))) place

pub stores-snoc : (c : Configuration) (items : List Item) (i : Item) → rendition_of i < length c.renditions
    → stores c (items ++ i ∷ []) ≡ slice_set (stores c items) (rendition_of i) (store c (own (rendition_of i) items ++ i ∷ []))
stores-snoc c items i h =
    let start : rendition_of i ≡ 0 + rendition_of i = omega arith in
    set-from c items i 0 (rendition_of i) c.renditions start h
    ∙ ap (λ r. slice_set (stores c items) (rendition_of i) (store c (own r items ++ i ∷ []))) (sym start)

pub store-got : (c : Configuration) (items : List Item) (r : ℕ) → r < length c.renditions → slice_get (stores c items) r ≡ Some (store c (own r items))
store-got c items r h =
    let start : 0 + r ≡ r = omega arith in
    got-from c items 0 r c.renditions h ∙ ap (λ q. Some (store c (own q items))) start

-- what an item adds, if these renditions were kept before it
abbrev pub arrival_of : List Rendition → Item → Arrival
arrival_of before i = record { rendition = rendition_of i; map = map_at (rendition_of i) before; brought = brought_by i }

-- an item that is accepted goes into the store of its rendition
pub arrived : (c : Configuration) (items : List Item) (i : Item) (old new : List Rendition) → rendition_of i < length c.renditions
    → ended (own (rendition_of i) items) ≡ false → slice_get old (rendition_of i) ≡ Some (kept c (own (rendition_of i) items))
    → slice_get new (rendition_of i) ≡ Some (kept c (own (rendition_of i) items ++ i ∷ []))
    → stores_with (arrival_of old i) new (stores c items) ≡ stores c (items ++ i ∷ [])
arrived c items i old new within going before after =
    let r = rendition_of i in
    let own_items = own r items in
    ap₂ (λ k s. with_by (arrival_of old i) k s (stores c items)) after (store-got c items r within)
    ∙ ap (λ map. slice_set (stores c items) r (trimmed (compact c (own_items ++ i ∷ [])) (grown map (store c own_items) (brought_by i))))
    (ap (λ o. option_map_or (λ (k : Rendition). map_now k.window) o 0) before)
    ∙ ap (slice_set (stores c items) r) (sym (store-snoc c own_items i going))
    ∙ sym (stores-snoc c items i within)
